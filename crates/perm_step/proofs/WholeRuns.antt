-- A whole run on one thread.
pub mod RunGoes
pub mod RunHeld
pub mod RunLively
pub mod RunRest
pub mod RunRounds
pub mod RunStores
pub mod RunTells
pub mod RunTurns
pub mod Comings
pub mod Weights
pub mod Opening
pub mod OpeningRuns
pub mod Reporting
