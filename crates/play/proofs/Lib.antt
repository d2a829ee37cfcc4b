-- The laws of playing, the theorems on played files, and what events tell.
pub mod Examples
pub mod PlayLaws
pub mod PlayTheorems
