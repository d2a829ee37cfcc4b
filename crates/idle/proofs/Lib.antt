-- The laws of padding.
pub mod LineStores
pub mod Pads
