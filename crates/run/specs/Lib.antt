-- What follows from the promises of a run's entries, and what follows for whole runs.
pub mod Theorems
pub mod Histories
