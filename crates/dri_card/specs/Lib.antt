pub mod Contents
pub mod Drawing
pub mod Loading
pub mod Lifting
pub mod Invariants
pub mod Openings
