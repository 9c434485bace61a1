pub mod Taking
pub mod Places
pub mod Using
