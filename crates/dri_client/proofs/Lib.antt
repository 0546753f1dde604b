-- Scripts and textures
pub mod Owned
mod Losses
-- The steps of a part, and those of the private part that it agrees with
pub mod Agreeing
mod Running
pub mod Placing
-- What stays true of a part
pub mod Keeping
mod Standing
