-- Definitions that only the contracts of private functions and the proofs cite. No public contract rests on them.
pub mod Fillable
