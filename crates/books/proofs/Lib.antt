-- The laws of a run's books, and examples by computation.
pub mod Agreements
pub mod QueueLaws
pub mod Examples
