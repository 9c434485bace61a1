pub mod Found
pub mod Numbers
pub mod Values
pub mod Command
pub mod Choices
pub mod Peers
pub mod Ranges
pub mod Examples
