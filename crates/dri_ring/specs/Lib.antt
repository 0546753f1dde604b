pub mod Jobs
pub mod Rings
pub mod Orders
pub mod Cards
pub mod Invariants
pub mod Counts
pub mod Follows
pub mod Replays
