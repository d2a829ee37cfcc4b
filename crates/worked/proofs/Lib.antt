-- The proof of the fourteen lines.
pub mod Marks
pub mod Only
pub mod Nothing
pub mod OneNode
pub mod Lines
