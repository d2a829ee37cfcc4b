-- The laws of the printed text and of the order of decisions, the theorems on it, and examples by computation.
pub mod Examples
pub mod TextLaws
pub mod OutcomeLaws
pub mod TextTheorems
