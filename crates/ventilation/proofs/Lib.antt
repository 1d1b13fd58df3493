-- The laws behind the contracts, in the order in which they build on each other.

-- The search, for any test, and why the verdict is such a test.
pub mod First
pub mod StaysBelow
pub mod Searched
-- The job with another rate in its bytes.
pub mod RateWritten
-- A second set.
pub mod SecondSet
-- What is promised.
pub mod Promised
