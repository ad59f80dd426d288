pub mod Lowest
pub mod Parts
pub mod Questions
pub mod Walk
