pub mod Reading
pub mod Entry
pub mod Premises
pub mod Made
