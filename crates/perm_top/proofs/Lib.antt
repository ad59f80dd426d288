pub mod Complete
pub mod OneAnswer
pub mod RunAnswers
