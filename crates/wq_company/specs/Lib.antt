pub mod Companies
pub mod Rounds
