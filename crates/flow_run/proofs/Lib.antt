pub mod Stops
pub mod Losses
pub mod Dues
pub mod Placed
mod Added
pub mod Declined
mod Reliance
pub mod Calms
mod Enough
pub mod Reaching
