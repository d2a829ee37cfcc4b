-- Text written piece by piece, and the words and numbers that the programs print.
pub mod Bytes
pub mod Pieces
pub mod Text
