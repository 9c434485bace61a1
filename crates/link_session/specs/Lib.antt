pub mod Keys
pub mod Fits
pub mod Sessions
pub mod Laws
