-- The windows that front shows at the opening
pub mod Stacked
-- Bytes of the texture memory
pub mod Bytes
-- Triangles and their steps, one after the other
pub mod CardPlanes
-- What the registers' words give
pub mod Readings
-- Pixels that are carried
pub mod Carrying
