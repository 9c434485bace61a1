pub mod Done
pub mod Plays
pub mod Closings
pub mod Steps
pub mod Drops
pub mod Results
pub mod Hearings
pub mod Ends
