pub mod Lines
pub mod Tallies
pub mod Examples
pub mod Laws
