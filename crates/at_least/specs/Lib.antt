-- The definitions that the contracts cite.
pub mod AtLeast
pub mod Halves
