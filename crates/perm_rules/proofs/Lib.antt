pub mod Truth
pub mod SetLaws
pub mod PartLaws
pub mod Written
pub mod Fine
pub mod Agree
pub mod Sequences
pub mod Effects
pub mod Refusals
pub mod Hiding
pub mod Pars
pub mod Modes
pub mod PartOrder
pub mod BodyFlows
pub mod BodiesThere
pub mod MethodStatements
pub mod MethodsAtPlace
mod Examples
