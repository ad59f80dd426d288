-- A test, and the frames of a `recover`.
pub mod TestForms
pub mod TestSound
pub mod TestSteps
pub mod TestTurns
pub mod TestClaims
pub mod RecoverForms
