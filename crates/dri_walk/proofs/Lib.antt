-- Rectangles that are cut, and how many places of them are covered
pub mod CutRects
pub mod Counts
-- The run of a row that is painted, and the brush that paints it
pub mod Runs
pub mod Ready
-- What is left of the places, row by row
pub mod Painting
-- The pixel rule
pub mod PixelRules
