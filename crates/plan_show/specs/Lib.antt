pub mod Shown
pub mod Rules
pub mod Files
pub mod Graph
pub mod Examples
