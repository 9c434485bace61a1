pub mod Crews
pub mod Moved
pub mod Early
