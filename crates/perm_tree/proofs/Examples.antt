-- Worked programs, with what the definitions make of them, by computation.
pub mod CanonicalRows
pub mod CodeRows
pub mod NameRows
pub mod ProgramTexts
