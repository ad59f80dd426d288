-- What a run with copies does is what the core does: each event of the machine whose variables move is one of the machine that copies them.
pub mod Parts
pub mod KeptVariables
pub mod Stacks
pub mod Merges
pub mod Ends
pub mod Evaluations
pub mod Statements
pub mod Turns
pub mod Events
pub mod LeftFirst
pub mod Runs
pub mod RunsBack
