pub mod Pieces
pub mod Drafts
pub mod Spots
