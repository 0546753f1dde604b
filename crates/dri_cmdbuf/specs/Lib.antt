pub mod Rooms
pub mod Decoding
