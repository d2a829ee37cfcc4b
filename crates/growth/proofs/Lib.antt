-- The laws of sets that follow a matrix, and of a matrix that grows; and examples.
pub mod SetLaws
pub mod Giving
pub mod Keeping
pub mod Examples
