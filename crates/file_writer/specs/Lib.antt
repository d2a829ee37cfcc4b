-- Writing scenario files: what a caller's tables say, the bytes of the file, what is refused, and that it reads back the same.
pub mod Bytes
pub mod Writing
pub mod Theorems
