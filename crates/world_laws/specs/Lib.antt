pub mod Members
pub mod Worlds
pub mod Reach
pub mod Due
pub mod Laws
pub mod Examples
