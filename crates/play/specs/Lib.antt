-- Playing scenario files, and what follows for every played file.
pub mod Plays
pub mod Theorems
