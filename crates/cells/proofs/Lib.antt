-- The laws of the two matrices in one table.
pub mod CellLaws
pub mod Examples
