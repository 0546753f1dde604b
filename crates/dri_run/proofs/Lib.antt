-- What the calls share: a run of turns, what wasn't read, what comes of what was read
pub mod Schedules
pub mod Kept
pub mod Texts
pub mod Sayings
-- Clients in threads
pub mod Threading
-- The words that read a recording
mod Behind
mod Recorded
mod Replaying
pub mod Showing
mod Flipping
mod Ringing
mod SixteenShown
-- The word many
mod Groups
-- The word make
mod FewEntries
mod Making
-- The word solo
mod Framed
mod Drawn
mod OnScreen
