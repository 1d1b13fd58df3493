-- Laws on numbers of six limbs. The first three are for callers: what bounds a number, what a result says, and what
-- the capped quotient is. The others serve the proofs of this crate.
pub mod Bounds
pub mod Results
pub mod LargestFactor
mod Carrying
mod Halving
mod LimbOrder
mod Limbs
mod Parts
mod Scaling
