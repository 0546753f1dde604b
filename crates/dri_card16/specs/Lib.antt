-- Colours in sixteen bits, and lines
pub mod Packing
pub mod Lines
pub mod Dots
pub mod LineExamples
-- Any card's pixel rule: frames alone, and runs
pub mod PixelRules
pub mod RuleRuns
-- The card of sixteen bits
pub mod Sixteen
-- What the card holds, and what its calls make of it
pub mod Widened
pub mod Calls
pub mod Invariants
-- Scenes that were worked by hand
pub mod Examples
-- A replay
pub mod Following
pub mod Replays
