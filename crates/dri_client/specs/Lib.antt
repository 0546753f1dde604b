pub mod Activities
pub mod Parts
pub mod Kept
pub mod Textures
pub mod Steps
pub mod Placings
