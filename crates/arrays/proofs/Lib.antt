-- The laws of lists and tables that are written cell by cell.
pub mod Stores
