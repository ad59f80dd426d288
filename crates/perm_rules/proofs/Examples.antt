-- Worked examples: whole programs that are accepted or refused, and statements and blocks named by their places, by computation.
pub mod Verdicts
mod Kinds
pub mod Places
mod Hidden
mod Derivations
mod Loops
