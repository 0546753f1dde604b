pub mod SixteenBits
pub mod Differing
pub mod Shown
pub mod Planes
pub mod AsEver
pub mod Good16
-- What the card holds is seen widened
pub mod Seen
pub mod Packed
pub mod Drawn16
-- The parts of a line, and its pixels
pub mod LineParts
pub mod LineDots
pub mod LinePlaces
pub mod LineColumns
pub mod LineNumbers
-- A card that follows a replay
pub mod InClips
pub mod Making
pub mod Made16
pub mod Followed16
