pub mod Ends
pub mod Runs
pub mod Nodes
pub mod Levels
pub mod Gathering
