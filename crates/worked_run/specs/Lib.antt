pub mod Worked
pub mod Premises
