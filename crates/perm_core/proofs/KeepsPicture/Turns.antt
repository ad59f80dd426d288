-- Turns of a leaf: what each does, and that the branch and the objects fit after it.
pub mod LeafTurns
pub mod PlainTurns
pub mod Arguments
pub mod AssignTurns
pub mod LeafChanges
pub mod Arrivals
pub mod LeafCases
