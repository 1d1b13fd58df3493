-- The laws behind the contracts, in the order in which they build on each other.
pub mod KindCodes
pub mod WithinLimits
pub mod Shares
pub mod Restated
pub mod Promised
