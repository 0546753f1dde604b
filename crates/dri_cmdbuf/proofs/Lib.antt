-- words and their halves
pub mod Halves
-- which words are a buffer's, and where others go wrong
pub mod Grammar
pub mod Places
