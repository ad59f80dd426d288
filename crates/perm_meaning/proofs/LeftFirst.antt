-- The machine on names, run left first, ends as the meaning says.
pub mod Reached
pub mod OneTurn
pub mod AtPar
pub mod Serial
pub mod WholeRun
pub mod Determined
