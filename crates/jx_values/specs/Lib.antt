pub mod Kinds
pub mod Sizes
pub mod Found
pub mod Ends
