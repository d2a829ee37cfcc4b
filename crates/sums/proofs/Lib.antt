-- The laws that every layer's proofs cite.
pub mod Cases
pub mod Sums
pub mod Gates
pub mod Searches
pub mod Tables
pub mod Fills
pub mod Fractions
