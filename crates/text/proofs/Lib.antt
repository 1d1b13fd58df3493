-- A number's decimal digits.
pub mod Digits
-- Copying a word into its place of a lent list, and the whole of a text.
pub mod Placed
pub mod Whole
-- Handing a sink a piece for each item.
pub mod Pieces
