pub mod Touches
pub mod Histories
pub mod Follows
pub mod Examples
