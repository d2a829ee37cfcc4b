-- What is held between the calls of a run, what they check, and what they answer and write.
pub mod Held
pub mod Checks
pub mod Runs
