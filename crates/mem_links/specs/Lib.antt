pub mod Servers
pub mod MemLinks
pub mod Serving
pub mod MemHalls
pub mod Laws
