-- The definitions that the contracts cite.
pub mod Pairs
pub mod Ways
