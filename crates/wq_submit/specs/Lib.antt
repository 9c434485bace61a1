pub mod Queues
pub use Rattle.wq_seats.specs.Shown
