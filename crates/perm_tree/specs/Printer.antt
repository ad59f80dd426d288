-- The canonical text of a program, and what is still to be written of it.
pub mod Expressions
pub mod Members
pub mod Parts
pub mod PendingParts
pub mod Programs
