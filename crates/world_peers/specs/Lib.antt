pub mod Peers
pub mod Company
pub mod Runs
pub mod Doings
pub mod Sizes
