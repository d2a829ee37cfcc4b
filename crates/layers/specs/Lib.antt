-- Layers, and the search for a goal.
pub mod Layers
