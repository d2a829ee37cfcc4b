-- The laws of the printed lines and of what is printed for an input, and the theorems on texts.
pub mod Examples
pub mod LineLaws
pub mod OutcomeLaws
pub mod PrintTheorems
