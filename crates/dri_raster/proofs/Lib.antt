-- The edges' distances, their bounds, and the coverage
pub mod Rings
pub mod Bounds
pub mod Distances
pub mod Covered
pub mod CommonEdges
-- The quantities, their sums, and how they grow along a row
pub mod Quantities
mod SumBounds
pub mod Running
-- Where the covered centres lie
pub mod Reach
-- Spans, and the walk by them
pub mod Spans
pub mod Rows
pub mod Filters
pub mod Counts
