-- A call, and its return.
pub mod CallArguments
pub mod CallEffects
pub mod CallEnters
pub mod CallFollows
pub mod CallNext
pub mod CallSound
pub mod ReturnFollows
pub mod ReturnNext
