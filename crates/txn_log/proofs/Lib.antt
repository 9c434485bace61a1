pub mod Entries
pub mod Gates
pub mod Growing
