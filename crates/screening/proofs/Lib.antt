-- The laws behind the contracts, in the order in which they build on each other.

-- The verdict, the level and the equilibrium factor against the exact quantity.
pub mod OneDenominator
pub mod Enclosing
pub mod Soundness
pub mod Falling
-- The arrays of a book.
pub mod FactorsAtRate
pub mod SameNumbers
pub mod HeldNumbers
-- The whole job: its checks, its answer, and demand 3.
pub mod CodesTaken
pub mod JobChecks
pub mod SameBytes
pub mod LongInput
pub mod Answers
pub mod AnswerByChecks
pub mod Restated
pub mod UnroundedShares
-- A second set.
pub mod WrittenFactors
pub mod WrittenAnswer
pub mod WrittenJob
pub mod SecondSet
pub mod Promised
