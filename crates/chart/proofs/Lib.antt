pub mod Charts
pub mod Entries
pub mod Firsts
pub mod Makes
pub mod Repeats
pub mod Sorts
pub mod Targets
