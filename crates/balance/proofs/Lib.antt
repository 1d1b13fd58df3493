-- The laws behind the contracts, in the order in which they build on each other.
pub mod AnyChain
pub mod FromBook
pub mod Filling
pub mod Call
-- What the promises say of a factor with its margin.
pub mod Raised
-- What is promised.
pub mod Promised
