-- the one list of a set of pixels
pub mod Unique
-- rows: numbers, and the walks of the three operations
pub mod Numbers
pub mod RowWalks
pub mod Uniting
pub mod Subtracting
-- bands: the walk, and rows written in place
pub mod Placed
pub mod BandWalks
-- regions: their rectangles, and what is kept of them
pub mod Regions
pub mod Arrangement
pub mod Bounds
