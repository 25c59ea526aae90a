pub mod Blocks
pub mod Buffers
pub mod Pieces
pub mod Reads
pub mod StdReads
pub mod Whole
pub mod Writes
