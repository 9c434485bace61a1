pub mod Literals
pub mod Measures
