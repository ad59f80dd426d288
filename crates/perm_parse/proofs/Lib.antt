pub mod Descent
pub mod OneAnswer
pub mod RoundTrip
pub mod Walks
pub mod WellFormed
