pub mod Shown
pub mod Clients
pub mod Kept
pub mod Needs
pub mod Fits
pub mod Opening
pub mod Acts
pub mod Checks
