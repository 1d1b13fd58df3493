-- The call.
pub mod CallAnswers
pub mod CallPasses
