pub mod Absent
pub mod Ending
pub mod Gone
pub mod Kept
pub mod Listed
pub mod Looked
pub mod Reading
pub mod Whole
