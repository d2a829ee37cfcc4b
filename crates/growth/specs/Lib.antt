-- A matrix that grows, and who can give more.
pub mod Growth
pub mod Sides
