-- values and their words
pub mod Numbers
-- readers: what they take, and where they stop
pub mod Runs
pub mod Accepted
pub mod Complete
pub mod Fillers
