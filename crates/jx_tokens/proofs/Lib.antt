mod Held
mod Quotes
mod Fronts
pub mod Scanned
