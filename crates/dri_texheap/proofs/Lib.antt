-- the choice of a run
pub mod Counted
pub mod Classes
pub mod Passing
pub mod Choosing
-- the list of the regions
pub mod Ordering
pub mod Linked
-- what calls leave
pub mod Heaped
pub mod Losing
pub mod Rooming
