pub mod Model
pub mod Moves
pub mod Names
pub mod Nothing
pub mod Numbers
pub mod Order
pub mod Listing
pub mod Plans
