pub mod Goings
pub mod Turning
