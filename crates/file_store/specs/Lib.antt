pub mod Elsewhere
pub mod Outputs
