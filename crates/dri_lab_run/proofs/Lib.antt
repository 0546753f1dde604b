-- What the calls share: what comes of what was read, and what that says of the bytes
mod Asked
-- The words that read a recording
mod Screens
mod Lines
-- The word events
mod Items
mod Rounded
-- The word all
mod Found
