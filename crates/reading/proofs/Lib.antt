-- The laws behind the contracts, in the order in which they build on each other: the quotient rounded up, the bits of a
-- float, its exact value times a multiplier, the parts of a reading joined, and the promise of the whole number.
pub mod Ceiling
pub mod Pattern
pub mod Product
pub mod ThreeCodes
pub mod PartsJoined
pub mod Promised
