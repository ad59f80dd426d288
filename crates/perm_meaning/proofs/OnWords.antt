-- The machine on words shows the machine on names.
pub mod Numbers
pub mod Related
pub mod Joined
pub mod Simulate
pub mod Heaps
pub mod NewObjects
pub mod ExpressionsAlike
pub mod EffectsAlike
pub mod TurnsAlike
pub mod Moved
pub mod Kept
pub mod KeptEvents
pub mod OpeningShown
pub mod WordsRun
