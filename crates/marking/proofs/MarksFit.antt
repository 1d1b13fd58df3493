-- A number has at most 20 digits, and the words have 29 bytes at most.
use Rattle.std.specs.Prelude.{Option, Some, None, Result, Ok, Err}
use Prim.Native.Nat.{ℕ, ◌+◌, ◌*◌, ◌≤◌}
use native.Mathlib.Omega.{arith}
use mathlib.Core.List.{List}
use lib.ListN.{length, length-append}
use Rattle.text.proofs.Digits.{decimal_at_most}
use Rattle.text.specs.Words.{most_digits}
use Rattle.refusals.specs.declared.Refusal.{Refusal}
use Rattle.refusals.specs.Grounds.{refusal_number}
use Rattle.marking.specs.Answers.{marks_answer}
use Rattle.marking.specs.Text.{first_line, text_of, marks_text, marks_room}
use Rattle.marking.specs.declared.tally.Marks.{Marks}
use Rattle.marking.specs.declared.tally.Place.{Place}

first_fits : (first : Option Place) → length (first_line first) ≤ 8 + 2 * most_digits
first_fits (Some place) = simp length-append (omega (arith, decimal_at_most place.line, decimal_at_most place.member))
first_fits None = omega arith

text_fits : (answer : Result Marks Refusal) → length (text_of answer) ≤ marks_room
unfolding text_of
text_fits (Ok marks) =
    simp length-append
    (omega (
      arith,
      decimal_at_most marks.right,
      decimal_at_most marks.close,
      decimal_at_most marks.wrong,
      first_fits marks.first,
    ))
text_fits (Err refusal) = simp length-append (omega (arith, decimal_at_most (refusal_number refusal)))

pub marks_fit : (text book : List ℕ) → length (marks_text text book) ≤ marks_room
marks_fit text book = text_fits (marks_answer text book)
