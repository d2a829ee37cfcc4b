-- The laws of layers and of the search.
pub mod LayerLaws
