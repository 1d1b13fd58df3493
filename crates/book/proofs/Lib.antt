-- The laws behind the contracts, in the order in which they build on each other.

-- The scale and the rates.
pub mod Rates
-- What the grounds of an accepted book say of its numbers.
pub mod BookPasses
pub mod Ranges
pub mod MemberGrounds
-- What is found of a book that is too long.
pub mod LongBook
-- The loops of the checks.
pub mod Along
pub mod Sought
pub mod Counted
pub mod SharesSummed
-- What is held of a book.
pub mod Filled
pub mod Placed
pub mod HeldFields
