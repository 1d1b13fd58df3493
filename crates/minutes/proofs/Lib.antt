-- The laws behind the contracts, in the order in which they build on each other.

-- A minute of any chain, scale and rates.
pub mod Stepping
pub mod MinuteEquations
pub mod Minute
pub mod Repeated
pub mod Periods
pub mod Pairs
pub mod Chunked
-- The call on an accepted book, and the promises.
pub mod Beginning
pub mod Holding
pub mod Filling
pub mod Checking
pub mod Promised
