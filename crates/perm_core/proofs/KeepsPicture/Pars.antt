-- Pars, where they begin and where their sides are joined.
pub mod ParTurns
pub mod Joins
pub mod ParStarts
pub mod ParBlocks
pub mod JoinCases
