-- The laws behind the contracts, in the order in which they build on each other.

-- The lines of a text, and what a line says.
pub mod LineLaws
pub mod LineLengths
pub mod LineForm
pub mod LineBack
pub mod Spaced
-- The texts that ground 24 passes are those that are written.
pub mod TextLines
pub mod Accepted
pub mod Written
-- The marks of a line, and of all lines.
pub mod LineMarks
pub mod Counting
pub mod Told
pub mod TableMarks
-- What is promised: of a book's own tables, of a text that is too long, of the marks.
pub mod ByChecks
pub mod OwnTable
pub mod NoneWrong
pub mod OfATable
pub mod LongText
pub mod Promised
pub mod MarksFit
