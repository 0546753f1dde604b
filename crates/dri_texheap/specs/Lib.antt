pub mod RegionStates
pub mod Ring
pub mod Placements
pub mod Search
