pub mod Telling
pub mod Counting
pub mod Opening
pub mod Noting
pub mod Parts
pub mod Printing
