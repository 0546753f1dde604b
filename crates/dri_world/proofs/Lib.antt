-- lists, and whose an event is
pub mod Places
pub mod Whose
-- where a turn or a kill is passed over
pub mod Passing
-- one event at a site and in its client
pub mod Fitting
-- what a world keeps, through turns and kills
pub mod Held
-- turns one after another
pub mod Rounding
-- what turns and kills answer
pub mod Answering
-- groups: their order, and what they keep
pub mod Orders
pub mod Tidy
pub mod Stepping
pub mod Playing
pub mod Cutting
pub mod Ending
pub mod Seating
pub mod Parties
pub mod Overs
