pub mod Cheap
pub mod Ways
