-- counting and runs of regions
pub mod Counts
pub mod Rooms
pub mod SharedRooms
pub mod Moves
-- words: each list spells one thing, and goes wrong at one place at most
pub mod Values
pub mod Spelling
pub mod Buffers
pub mod Faults
-- the stack
pub mod Touches
