-- The text of a journal
pub mod Journals
pub mod Forms
pub mod Readings
-- The replay of a journal
pub mod Tallies
pub mod Deeds
pub mod Acts
pub mod Reasons
pub mod Remains
pub mod Replays
-- The check of a journal
pub mod Checks
