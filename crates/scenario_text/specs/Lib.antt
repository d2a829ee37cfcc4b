-- What the scenario program prints, and what follows from it.
pub mod Lines
pub mod Outcomes
pub mod Theorems
