pub mod Table
pub mod Answers
pub mod Promises
pub mod Private
