pub mod Calls
pub mod Entries
pub mod Steps
pub mod StepLaws
pub mod MemSite
pub mod MemSink
pub mod Blanks
pub mod TableRunner
