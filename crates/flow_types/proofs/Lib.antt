pub mod Joins
pub mod Forms
pub mod Totals
pub mod SerialRun
pub mod Orders
