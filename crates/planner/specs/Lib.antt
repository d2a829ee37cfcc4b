-- What is kept of a demand and how a frame carries it: the entry `plan`, and what follows from it.

pub mod Lent
pub mod Checks
pub mod Plans
pub mod Work
pub mod Theorems
