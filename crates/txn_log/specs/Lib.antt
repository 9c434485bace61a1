pub mod Gates
pub mod Spells
pub mod Logs
pub mod Examples
