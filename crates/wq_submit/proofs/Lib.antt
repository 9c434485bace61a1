pub mod Waiting
pub mod Knowing
pub mod Calling
pub mod Staffing
pub mod Once
