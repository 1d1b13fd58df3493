-- The laws of a quotient rounded to the nearest whole.
pub mod Between
