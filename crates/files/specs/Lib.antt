-- Scenario files: their format, what a file says, what reading refuses, and what a call answers that writes bytes.
pub mod Output
pub mod Format
pub mod Kinds
pub mod Reading
