pub mod Courses
pub mod Sites
pub mod Turns
pub mod Holding
pub mod Currents
pub mod GroupRuns
pub mod Segments
pub mod Seats
