-- The text: what was read before, spellings that read back, numbers in their ranges
mod Accumulating
pub mod Spellings
mod ReadBack
pub mod EntryRanges
-- Whether an entry is legal, by what a replay keeps
pub mod Whom
mod Legal
mod Judged
-- What a replay keeps, and keeps faithful
mod Runs
mod Beginning
mod Unchanged
mod Restacked
mod Keeping
-- What a client draws with
mod OwnDrawing
-- What is counted and reported
mod Counting
mod Cutting
mod Reported
-- Journals without a schedule
mod Plain
