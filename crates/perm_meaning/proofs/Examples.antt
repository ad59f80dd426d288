-- Worked programs.
pub mod Shown
mod Outcomes
mod LeftFirst
mod Tied
