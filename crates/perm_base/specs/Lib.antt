pub mod Calls
pub mod Counts
pub mod Edge
pub mod Files
pub mod MemFiles
pub mod Pieces
pub mod Reads
pub mod Writes
