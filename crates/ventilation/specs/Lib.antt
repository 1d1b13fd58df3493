pub mod Lowest
pub mod JobWithRate
pub mod Promises
pub mod Private
