-- The fourteen worked lines of document 01.
pub mod Worked
