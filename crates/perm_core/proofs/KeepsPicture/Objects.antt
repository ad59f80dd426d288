-- Turns that read, make or write objects.
pub mod MakeTurns
pub mod ChangedObjects
pub mod StoreTurns
pub mod ItemStores
pub mod ObjectTurns
pub mod FieldMoves
pub mod FieldValues
pub mod LoadTurns
pub mod TakeTurns
pub mod ReadTurns
