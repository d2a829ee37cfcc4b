-- The laws of what an accepted file has passed, and the definitions at their edges.
pub mod Examples
pub mod ReadLaws
