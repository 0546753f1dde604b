-- stacks: places, the topmost window, and changes
pub mod Placing
pub mod Walking
pub mod Restacking
-- the area, and the lists that are mended in it
pub mod Areas
pub mod Lists
-- what a change touches, and its stamps
pub mod Comparing
pub mod Stamping
-- paints
pub mod Painting
pub mod Gaining
-- what comes along of a moved window
pub mod Carrying
-- the board, and what it tells
pub mod Telling
