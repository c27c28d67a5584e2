pub mod Listings
pub mod Members
pub mod Models
pub mod Nothing
pub mod Orders
