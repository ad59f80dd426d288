pub mod Lexes
pub mod Reading
pub mod Tokens
