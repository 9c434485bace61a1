pub mod Behind
pub mod Names
pub mod Steps
pub mod Loops
pub mod Trees
