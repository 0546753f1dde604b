pub mod Surfaces
pub mod Clips
pub mod Samplings
pub mod Samplers
pub mod Drawings
pub mod Rows
