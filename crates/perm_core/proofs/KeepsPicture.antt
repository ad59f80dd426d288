-- What holds of a picture after an event.
pub mod Turns
pub mod Labels
pub mod Order
pub mod Objects
pub mod Calls
pub mod Pars
pub mod Trees
pub mod PictureEvents
