pub mod Rows
pub mod Run
pub mod Promises
pub mod Private
