-- What the checker does not find by itself
mod Spelling
