-- lists and texts
pub mod Numbers
pub mod Joins
-- what is read is in range
pub mod SoundSteps
-- what is printed is read again
pub mod PrintedWords
pub mod PrintedLines
pub mod Sections
pub mod ReadBack
-- the scene that is made
pub mod Generated
