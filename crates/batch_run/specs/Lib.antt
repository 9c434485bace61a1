pub mod Batch
pub mod Ends
