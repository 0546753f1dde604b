pub mod Parts
pub mod Words
pub mod Ranges
pub mod Lines
