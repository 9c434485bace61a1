pub mod Answers
pub mod Bytes
pub mod Texts
pub mod Tokens
