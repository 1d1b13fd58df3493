pub mod Lines
pub mod Form
pub mod Marks
pub mod Answers
pub mod Text
pub mod Promises
pub mod Private
