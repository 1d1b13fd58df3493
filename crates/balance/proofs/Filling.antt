-- The fill.
pub mod Quotients
pub mod AlongFeeds
pub mod FilledInOrder
pub mod FilledFactors
