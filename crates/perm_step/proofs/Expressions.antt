-- What an expression asks for, and how many words.
pub mod Answering
pub mod Operations
pub mod GivenWords
pub mod RoomSpent
