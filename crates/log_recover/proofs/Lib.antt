pub mod Begins
pub mod Heads
pub mod Quiets
pub mod Recoveries
pub mod Scans
pub mod Sizes
pub mod Unique
pub mod Windowing
