-- The laws behind the contracts, in the order in which they build on each other.

-- The verdict, the level and the equilibrium factor of any assessment.
pub mod Verdicts
pub mod Sandwich
pub mod Soundness
pub mod Falling
pub mod Level
pub mod CommonFactor
pub mod Proportion
pub mod Restated
pub mod LevelNumbers
-- The sums over the members, and their multiples in limbs.
pub mod Columns
pub mod ExactLimbs
pub mod SameAssessment
pub mod Judging
-- What is promised.
pub mod Promised
