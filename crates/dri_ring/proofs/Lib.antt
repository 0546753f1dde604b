-- Planes as functions of their places
mod Kept
-- Jobs one after another
mod Settling
mod Orders
-- What words spell, and what a job makes of the card
mod Spells
mod Ran
-- The jobs that wait
mod Ready
-- What is put and counted, and what a new stack leaves
mod Putting
mod Shown
mod Drawings
mod Counting
-- A ring that follows a journal
mod Made
mod Followed
