pub mod Completes
pub mod Found
pub mod Lists
pub mod Moves
