-- What the matrix program reads, what it prints, in which order it decides, and what follows from it.
pub mod Text
pub mod Outcomes
pub mod Writes
pub mod Theorems
