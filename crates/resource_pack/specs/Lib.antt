pub mod Packing
pub mod Occupancy
pub mod Used
