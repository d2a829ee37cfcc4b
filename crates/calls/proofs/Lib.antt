-- The laws of the calls' checks and of their work.
pub mod Verdicts
pub mod Outcomes
pub mod Examples
