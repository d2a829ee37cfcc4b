-- The books of a run's pairs, what is made of a run's tables, and what the work on them asks.
pub mod Books
pub mod Queues
pub mod Rooms
