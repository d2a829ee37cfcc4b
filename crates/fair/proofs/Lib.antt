-- The laws of the line-by-line cut, and examples by computation.
pub mod LineCuts
pub mod Choices
pub mod Steps
pub mod Comparisons
pub mod Partway
pub mod Rounds
pub mod Examples
