pub mod Outcome
pub mod Listed
