-- Rectangles one after the other, and how many places they have
pub mod Rects
-- Planes as functions of their places
pub mod Pixels
-- What is done in one rectangle more
pub mod Steps
-- What the planes are, and what the card means
pub mod Meant
-- What is owed, and calls that touch nothing
pub mod Owed
-- What the registers of a state and its image draw
pub mod Drawn
-- What a journal owes, and what its entries touch
mod Sets
mod Counting
mod Changed
mod Painting
mod Counts
-- A card that follows a journal
mod Clipped
mod Made
mod Lifted
mod Followed
