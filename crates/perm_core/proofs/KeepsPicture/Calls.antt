-- Calls and recover blocks, where they begin and where they end.
pub mod GiveTurns
pub mod ReturnTurns
pub mod CallArguments
pub mod CallBeginnings
pub mod RightCalls
pub mod CallTurns
pub mod CallEnds
pub mod Returns
pub mod Gives
pub mod CallCases
