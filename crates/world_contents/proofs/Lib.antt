pub mod Numbers
pub mod Beginnings
