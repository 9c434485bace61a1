pub mod Causes
pub mod Files
pub mod Disk
pub mod Jobs
pub mod Sent
