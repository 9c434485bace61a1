pub mod Answers
pub mod Lines
pub mod Names
pub mod Expansion
pub mod Parts
pub mod Output
pub mod Cuts
