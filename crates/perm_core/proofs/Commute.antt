-- Different nodes of a state with a picture stand apart: they have no conflict, and their events commute.
pub mod ZonesApart
pub mod LeadsTo
pub mod TwoNodes
pub mod TwoOperations
pub mod LeafOperations
pub mod TwoEvents
pub mod NamesToCome
pub mod Conflicts
pub mod OnWords
pub mod WordConflicts
