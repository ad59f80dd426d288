-- Where the meaning of code that ends rightly is stuck, so is the machine that copies variables, left first: it comes to a state that hasn't ended and has no event.
pub mod CalledCodes
pub mod Results
pub mod Stops
pub mod Pars
pub mod Codes
pub mod StuckRuns
