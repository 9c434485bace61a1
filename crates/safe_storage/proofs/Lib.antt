pub mod Loops
pub mod Loads
pub mod Drops
pub mod Orders
pub mod Alike
pub mod Told
pub mod Asking
pub mod Rooms
