-- The laws of sums, of numbers in the same bytes, of tests, of a loop that makes them, and of a bisection.

pub mod Sums
pub mod AlikeBytes
pub mod SomeSame
pub mod NoneMet
pub mod Tested
pub mod Made
pub mod Bisection
