-- Lists of decimal numbers, and what reading one gives.
pub mod Input
pub mod Reads
