-- The laws behind the contracts, in the order in which they build on each other.
pub mod RateLine
pub mod ByChecks
pub mod LongBooks
pub mod Promised
pub mod Measured
