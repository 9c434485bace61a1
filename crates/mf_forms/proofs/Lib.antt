pub mod Places
pub mod Digits
pub mod Runs
pub mod Quoting
pub mod Naming
pub mod Arrows
pub mod QuotesRead
