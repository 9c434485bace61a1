pub mod Healths
