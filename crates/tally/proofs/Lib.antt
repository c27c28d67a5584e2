pub mod Joins
pub mod Steps
pub mod Kept
pub mod Quotients
