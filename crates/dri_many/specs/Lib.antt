-- The groups that a scene may have
pub mod Groupings
-- Their text, line by line
pub mod Lines
pub mod Readings
-- What was read so far
pub mod Soundness
