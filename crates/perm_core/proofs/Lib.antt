pub mod FewEvents
pub mod OpeningPicture
pub mod Progress
pub mod WordsShown
pub mod KeepsPicture
pub mod Serial
mod Examples
pub mod Pieces
pub mod Whole
pub mod Commute
