pub mod Drawing
pub mod Holdings
pub mod States
pub mod Copies
pub mod Commands
pub mod Sides
pub mod Areas
