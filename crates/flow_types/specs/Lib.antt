pub mod Names
pub mod Plans
pub mod Flows
pub mod Serial
pub mod Laws
pub mod Examples
pub mod formers
