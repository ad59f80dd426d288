-- The pieces of a tree tell its events, its numbers and its turns.
pub mod Bags
pub mod Holes
pub mod HeldEvents
pub mod RightSides
pub mod PieceEvents
pub mod PieceCounts
pub mod WithoutEvents
