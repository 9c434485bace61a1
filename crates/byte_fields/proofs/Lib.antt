pub mod Fields
pub mod Loops
pub mod Prompt
pub mod Limits
