pub mod Areas
pub mod Layouts
pub mod Images
