-- The definitions that every layer's contracts cite.
pub mod Sums
pub mod Searches
pub mod Tables
