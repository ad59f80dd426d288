-- A step that neither calls nor tests nor forks.
pub mod Refused
pub mod SimpleForms
pub mod SimpleEffects
pub mod SimpleLeft
pub mod SimpleTurns
pub mod SimpleClaims
