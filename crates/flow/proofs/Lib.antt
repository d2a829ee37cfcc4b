-- The laws of matrices below bounds and ceilings, and of how a matrix grows.
pub mod Duality
pub mod Check
pub mod Grows
pub mod Ends
