pub mod Minutes
pub mod Periods
pub mod Promises
pub mod Private
