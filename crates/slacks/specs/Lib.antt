-- What the entry `slacks` promises, and what follows from it.

pub mod Checks
pub mod Slacks
pub mod Theorems
