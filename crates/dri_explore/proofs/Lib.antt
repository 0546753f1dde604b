-- What may come next in a run
pub mod Choosing
-- What nodes tell of their runs
pub mod Keys
-- From one level to the next
pub mod Steps
-- Items one after another, and lists as far as they are gone through
pub mod Walking
-- The ends on the way
pub mod Finding
