pub mod Joining
pub mod Drafting
pub mod Showing
pub mod Calls
pub mod Marks
pub mod Finding
pub mod Filling
pub mod Ranging
