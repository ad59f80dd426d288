-- What code does needs no count of rounds: each round and each call spends a turn.
pub mod Same
pub mod Fixed
