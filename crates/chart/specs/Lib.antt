pub mod Tables
pub mod Faults
pub mod Index
pub mod Meaning
pub mod Lawful
pub mod Makes
