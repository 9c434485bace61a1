pub mod Spans
pub mod Moves
