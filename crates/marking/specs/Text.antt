-- What the program `marks` writes.
use Rattle.std.specs.Prelude.{ℕ, ◌+◌, ◌*◌, List, ◌++◌, Option, Some, None, Result, Ok, Err}
use Rattle.refusals.specs.Grounds.{refusal_number}
use Rattle.refusals.specs.declared.Refusal.{Refusal}
use Rattle.text.specs.Words.{ascii, decimal, line_feed, line, most_digits}
use Rattle.marking.specs.Answers.{marks_answer}
use Rattle.marking.specs.declared.tally.Marks.{Marks}
use Rattle.marking.specs.declared.tally.Place.{Place}

-- The line and the member's number of the first wrong entry, or that there is none.
abbrev pub first_line : Option Place → List ℕ
first_line (Some place) = ascii "first " ++ decimal place.line ++ line " " place.member
first_line None = ascii "first none" ++ line_feed

-- How many are right, close and wrong, a line each, and the first wrong one's.
abbrev pub marks_lines : Marks → List ℕ
marks_lines marks =
    line "right " marks.right ++ line "close " marks.close ++ line "wrong " marks.wrong ++ first_line marks.first

-- A refusal as in `screen`.
unfoldable pub text_of : Result Marks Refusal → List ℕ
text_of (Ok marks) = marks_lines marks
text_of (Err refusal) = line "refused " (refusal_number refusal)

abbrev pub marks_text : List ℕ → List ℕ → List ℕ
marks_text text book = text_of (marks_answer text book)

-- No text is longer: 29 bytes besides its five numbers.
abbrev pub marks_room : ℕ
marks_room = 29 + 5 * most_digits
