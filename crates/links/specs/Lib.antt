pub mod Passings
pub mod Honesty
pub mod Halls
pub mod Ill
pub mod Peers
pub mod Laws
