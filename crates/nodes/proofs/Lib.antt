-- The laws of sets of nodes.
pub mod Members
pub mod SetLaws
pub mod Sizes
