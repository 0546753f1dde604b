-- Paints one after the other, and what a new stack leaves
pub mod Stacked
-- What a deed makes of the planes is what its entry makes of the world
pub mod Lifted
-- The entries of a journal one after the other
pub mod Taken
-- What is loaded before a triangle
pub mod Loading
-- A card that follows a replay
pub mod Cards
