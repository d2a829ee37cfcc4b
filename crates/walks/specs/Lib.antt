-- Paths through layers, and what goes along them.
pub mod Paths
pub mod Walks
