pub mod Submissions
pub mod Kept
pub mod Stages
pub mod Lines
pub mod Books
