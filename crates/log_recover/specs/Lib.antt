pub mod Steps
pub mod Quiet
pub mod Windows
pub mod Recovery
pub mod Laws
