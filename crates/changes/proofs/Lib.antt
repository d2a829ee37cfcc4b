-- The laws of counting.
pub mod ChangeLaws
pub mod Examples
