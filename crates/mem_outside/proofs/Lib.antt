pub mod FilesByName
pub mod Copies
pub mod Crashes
pub mod Replays
pub mod EmptyContents
pub mod Stops
