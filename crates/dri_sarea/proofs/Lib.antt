-- fields and bytes
pub mod Fields
pub mod Bytes
pub mod Pieces
pub mod Parts
-- an image, written and read
pub mod Writing
pub mod Reading
pub mod Imaging
-- areas
pub mod Making
