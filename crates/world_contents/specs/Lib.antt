pub mod Holdings
pub mod Sources
