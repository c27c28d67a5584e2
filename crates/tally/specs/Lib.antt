pub mod Summary
pub mod Values
pub mod Counts
pub mod Pairs
pub mod Theorems
pub mod Share
