pub mod Pictures
pub mod Makings
pub mod Cards
