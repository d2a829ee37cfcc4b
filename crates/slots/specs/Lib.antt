-- The definitions that the contracts cite.
pub mod Writing
pub mod Rounds
pub mod Places
