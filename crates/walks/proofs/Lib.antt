-- The laws of paths and of walks.
pub mod Thinning
pub mod Climbs
pub mod Sends
pub mod WalkLaws
