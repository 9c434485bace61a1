pub mod Honesties
pub mod Asking
