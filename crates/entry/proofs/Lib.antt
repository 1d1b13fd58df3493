-- The laws behind the contracts, in the order in which they build on each other.
pub mod Places
pub mod Cases
pub mod NearestForm
pub mod Promised
