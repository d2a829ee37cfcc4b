-- How the entries for programs in C and Rust report, and what follows from their promises.
pub mod Reports
pub mod Theorems
