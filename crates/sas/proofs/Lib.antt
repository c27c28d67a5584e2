pub mod Walks
pub mod Ranges
pub mod Cuts
pub mod Scanned
