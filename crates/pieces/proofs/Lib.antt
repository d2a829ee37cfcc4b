-- The laws of bytes written piece by piece, those of text, and examples by computation.
pub mod Examples
pub mod PieceLaws
pub mod TextLaws
