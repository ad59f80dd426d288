pub mod KnownSets
pub mod KnownVariables
pub mod StepCodes
pub mod BlockStatements
pub mod EffectWalks
pub mod OwnVariables
pub mod Operations
pub mod UsesWalks
