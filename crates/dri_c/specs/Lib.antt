pub mod Gathering
pub mod Buffers
pub mod Told
pub mod Obeying
pub mod Playing
