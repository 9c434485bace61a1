pub mod Words
pub mod Quotes
pub mod Forms
pub mod Heads
pub mod Commands
pub mod Numbers
pub mod Laws
