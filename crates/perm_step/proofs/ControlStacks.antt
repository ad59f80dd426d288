-- A control stack and the stem that it means.
pub mod Finals
pub mod Forks
pub mod Joins
pub mod ParCodes
pub mod Resumes
pub mod Starts
pub mod StemSteps
