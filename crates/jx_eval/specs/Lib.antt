pub mod Operands
pub mod Machine
