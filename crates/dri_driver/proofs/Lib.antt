-- a client and the value that it fits
pub mod Fitting
mod Owned
-- the clients of a scene, as a run begins
mod Copied
pub mod Openings
-- one entry of a client: how many are left, what is made ready, and what is run
mod Counts
mod Preparing
mod Steps
-- what others do for a client
mod Telling
