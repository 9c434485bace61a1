pub mod Rows
pub mod Keys
pub mod Answering
pub mod Fronts
pub mod Honest
pub mod Keeping
