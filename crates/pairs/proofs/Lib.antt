-- The laws of pairing: what each loop keeps, that moving along a way pairs one more, and by counting that equal line sums can always be paired.
pub mod Scans
pub mod Finds
pub mod Flips
pub mod Matches
pub mod Counts
