-- The laws of reading a list byte by byte, and examples by computation.
pub mod Examples
pub mod InputLaws
