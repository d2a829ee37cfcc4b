-- The definitions that the contracts cite.
pub mod Holds
pub mod Turns
