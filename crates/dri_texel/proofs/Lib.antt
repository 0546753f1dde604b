pub mod Reciprocals
