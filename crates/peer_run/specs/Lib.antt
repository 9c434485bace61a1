pub mod Asked
pub mod Causes
pub mod Ended
pub mod Ends
pub mod Met
pub mod Says
pub mod Works
