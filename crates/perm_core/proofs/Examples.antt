-- Worked examples of the core, of the picture and of code that is not steady.
mod RefutedPictures
mod HiddenRuns
mod ForeignMethods
mod Interleavings
pub mod PictureTest
mod Pictures
pub mod RegionPrograms
pub mod Schedules
mod Shortages
mod ShownRuns
mod WordRuns
mod UnsteadyCodes
