pub mod Reading
pub mod Promises
pub mod Private
