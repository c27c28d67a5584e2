pub mod Following
pub mod Barring
pub mod Requiring
