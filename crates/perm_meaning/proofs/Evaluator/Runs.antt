-- Each step of a run keeps what its state means.
pub mod Begun
pub mod Behind
pub mod BehindBlocks
pub mod BehindPars
pub mod Blocks
pub mod Calls
pub mod LaterNames
pub mod PartEnds
pub mod Simple
pub mod StatementsThere
pub mod Turns
