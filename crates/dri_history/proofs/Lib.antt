-- Rectangles that have a place, and what a card has there
pub mod Placing
-- What each deed makes of a card
pub mod Made
-- One entry more on the card
pub mod Followed
-- What a deed does at a place is what its entry does there
pub mod Doings
-- Touches one after the other
pub mod Told
-- What isn't touched stays
pub mod Staying
