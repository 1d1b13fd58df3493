-- The laws of a word of digits.
pub mod Capped
