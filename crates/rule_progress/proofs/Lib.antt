pub mod Filling
pub mod Needing
pub mod Stepping
pub mod Coming
