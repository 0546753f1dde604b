-- what was read before
mod Accumulating
mod Numbers
-- what is read are groups of the scene
mod Counts
mod Members
pub mod SoundSteps
