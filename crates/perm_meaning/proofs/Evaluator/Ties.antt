-- What numbered variables and objects stand for doesn't change with the names of objects that are not there yet.
pub mod Below
pub mod Answering
pub mod Marks
pub mod Stepping
pub mod Opening
pub mod Running
