-- The least rule.
pub mod Least
pub mod Promises
