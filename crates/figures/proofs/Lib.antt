-- The laws behind the contracts.
pub mod TooShort
pub mod Counted
