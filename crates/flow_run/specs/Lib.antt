pub mod Overs
pub mod Places
pub mod Relied
pub mod Reached
pub mod Openings
