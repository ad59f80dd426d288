-- The word machine at a step: its cells, its marks, and what it answers.
pub mod Settling
pub mod Moves
pub mod Cells
pub mod HeapAnswers
