-- Matrices below bounds and ceilings, cuts, and what the functions that find the largest promise.
pub mod Flows
pub mod Certified
pub mod Grows
