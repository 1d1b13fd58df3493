-- The call for marks: a text and a book in; checks 9 to 18, then 24.
use Rattle.std.specs.Prelude.{ℕ, List, [], ◌∷◌, ◌++◌, Result}
use Rattle.refusals.specs.Grounds.{Ground, ground_of, first_met, answer_if}
use Rattle.refusals.specs.declared.Refusal.{Refusal}
use Rattle.refusals.specs.declared.Refusal.TheVariants.{TableNotOfForm}
use Rattle.book.specs.Fields.{members}
use Rattle.book.specs.BookGrounds.{book_grounds}
use Rattle.marking.specs.Form.{table_not_of_form}
use Rattle.marking.specs.Marks.{marks_of}
use Rattle.marking.specs.declared.tally.Marks.{Marks}

abbrev pub mark_grounds : List ℕ → List ℕ → List Ground
mark_grounds text book = book_grounds book ++ (ground_of TableNotOfForm (table_not_of_form (members book) text) ∷ [])

-- Accepted, the call answers the marks; a refusal is the refusal alone.
abbrev pub marks_answer : List ℕ → List ℕ → Result Marks Refusal
marks_answer text book = answer_if (first_met (mark_grounds text book)) (marks_of book text)
