-- The laws behind the contracts, in the order in which they build on each other.
pub mod FewDigits
pub mod Capped
pub mod Points
pub mod Said
pub mod OfForm
pub mod Promised
pub mod ReadBack
pub mod NoFeeds
pub mod OwnEntry
