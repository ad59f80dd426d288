pub mod Answers
pub mod Appending
