pub mod OverAll
pub mod OrderLaws
pub mod OrderPairs
pub mod AdaptationLaws
pub mod Fitting
mod Tables
