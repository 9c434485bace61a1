pub mod Joining
pub mod ScopeLemmas
pub mod Cutting
pub mod Writing
pub mod CuttingOnce
pub mod Fronts
