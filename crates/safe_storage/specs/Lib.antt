pub mod Counters
pub mod Pacing
pub mod Keeping
