pub mod Works
pub mod Seats
pub mod Shown
pub mod Tellings
pub mod Turns
