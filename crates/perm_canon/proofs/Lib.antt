pub mod Walk
mod Dumps
