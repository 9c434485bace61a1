pub mod Positions
pub mod Times
pub mod Staging
pub mod Sizes
pub mod Rising
pub mod Stopping
