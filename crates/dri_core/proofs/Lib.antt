-- Private parts, and the invariants of the world
pub mod Parts
pub mod Clean
pub mod Sizes
pub mod Packing
pub mod Invariant
pub mod Keeping
pub mod Restacking
pub mod Kept
pub mod Textures
pub mod TextureUses
pub mod Sound
-- Hold-runs: what is current, stamps, drawing, frames, what lasts
pub mod Laws
pub mod Stamps
pub mod Draws
pub mod FrameNumbers
pub mod Carried
pub mod Stood
pub mod PlaneSteps
pub mod Stays
-- The table of entries as a test
pub mod Decide
pub mod FirstBad
-- Runs of the core, and their journals
pub mod Cores
pub mod CoreLaws
pub mod Queues
-- Turns and kills
pub mod EventTurns
pub mod TurnEvents
pub mod OneTurn
pub mod Rounds
pub mod Played
-- How much is left, and how rounds end
pub mod Lively
pub mod Endings
pub mod Aged
pub mod WorkParts
pub mod Measures
pub mod Going
pub mod RoundsEnd
-- How high counts rise
pub mod AgeBounds
pub mod Bounds
-- The windows stay on the stack
pub mod Windows
-- Places of lists, and how large textures are
pub mod Lists
pub mod TextureSizes
-- The laws as the public functions state them
pub mod RunLaws
