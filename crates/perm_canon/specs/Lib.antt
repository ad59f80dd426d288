pub mod Numbering
pub mod DumpText
