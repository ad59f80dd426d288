-- Labels that change: what a renaming keeps, and which renamings an event makes.
pub mod OtherHeaps
pub mod Relabellings
pub mod CarriedValues
pub mod Beside
pub mod LocalChanges
pub mod NodeChanges
pub mod NextLabels
