-- The laws of a list of grounds.
pub mod FirstMet
pub mod Numbers
pub mod OtherNumber
