-- One client: frames drawn alone, phases, private parts
pub mod Solo
pub mod Phases
pub mod Privates
pub mod TextureSizes
-- The world and its entries
pub mod Worlds
pub mod Restacks
pub mod Effects
pub mod EntryTable
-- Hold-runs, their frames, and whether a journal is one
pub mod Runs
pub mod Frames
pub mod PlaneSteps
pub mod Decide
pub mod FirstBad
-- The core and its events
pub mod Cores
pub mod EventTable
pub mod CoreRuns
-- Turns and rounds
pub mod Turns
pub mod TurnLaws
pub mod Measures
-- Of what worked scenes are made
pub mod ExampleParts
