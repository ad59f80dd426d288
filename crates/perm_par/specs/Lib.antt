pub mod Known
pub mod StepVariables
pub mod BlockEffects
pub mod Operands
pub mod BlockSets
pub mod Kinds
