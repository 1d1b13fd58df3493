-- A text that is longer than every table is refused, by itself and by its first bytes, on the same ground: one of the
-- book's, which read no text, or 24, since a text of the form has at most 200 lines and each fits the room for a line.
use Rattle.std.specs.Prelude.{Ok, Err}
use Prim.Native.Nat.{ℕ, ◌+◌, ◌≤◌, ◌<◌}
use native.Mathlib.Omega.{arith}
use mathlib.Core.Path.{◌≡◌, refl, sym, ap, ◌∙◌}
use mathlib.Core.Bool.{Bool, true, false}
use mathlib.Core.List.{List}
use lib.ListN.{length, take}
use lib.Seq.{length-take-le}
use Rattle.refusals.specs.Grounds.{first_met, or_else, Checked, answer_if}
use Rattle.refusals.specs.declared.Refusal.TheVariants.{TableNotOfForm}
use Rattle.book.specs.Limits.{max_members}
use Rattle.book.specs.Fields.{members}
use Rattle.book.specs.BookGrounds.{book_grounds}
use Rattle.book.specs.Rates.{max_rate}
use Rattle.book.proofs.Ranges.{few_members}
use Rattle.text.proofs.Digits.{decimal_below}
use Rattle.text.proofs.Pieces.{each_at_most}
use Rattle.entry.specs.declared.scaling.Share.{Share}
use Rattle.tables.specs.Answers.{line_room, table_room}
use Rattle.marking.specs.Lines.{line_of}
use Rattle.marking.specs.Form.{table_not_of_form}
use Rattle.marking.specs.Marks.{marks_of}
use Rattle.marking.specs.Answers.{mark_grounds, marks_answer}
use Rattle.marking.specs.Promises.{Writable, written}
use Rattle.marking.specs.declared.tally.Marks.{Marks}
use Rattle.marking.proofs.LineLengths.{line_length}
use Rattle.marking.proofs.Written.{only_written}
use Rattle.marking.proofs.ByChecks.{in_two}

-- What is found of a text that is not of the form, whatever is found of the book.
abbrev found_with : Checked → Checked
found_with of_book = or_else of_book (Err TableNotOfForm)

answer_alike : (of_book : Checked) (a b : Marks) → answer_if (found_with of_book) a ≡ answer_if (found_with of_book) b
answer_alike (Ok tt) a b = refl
answer_alike (Err r) a b = refl

written_fits : (n : ℕ) (rates : List ℕ) (share : ℕ → ℕ → Share) → n ≤ max_members → Writable n rates share →
    length (written n rates share) ≤ table_room
written_fits n rates share few say =
    let piece : ℕ → ℕ → List ℕ = λ k rate. line_of n rate (share k) in
    let line : (k rate : ℕ) → rate ≤ max_rate → length (piece k rate) ≤ line_room =
    λ k rate low. omega (arith, line_length n rate (share k), decimal_below 5 rate (omega arith))
    in
    let all = each_at_most piece (λ rate. rate ≤ max_rate) line_room line 0 rates say.low in
    omega (arith, say.few)

long_not_of_form : (n : ℕ) (text : List ℕ) → n ≤ max_members → table_room < length text →
    (t : Bool) → table_not_of_form n text ≡ t → table_not_of_form n text ≡ true
long_not_of_form n text few long true e = e
long_not_of_form n text few long false e =
    let w = only_written n text e in
    absurd (omega (arith, ap length w.3, written_fits n w.0 w.1 few w.2))

long_found : (text book : List ℕ) → table_room < length text →
    (of_book : Checked) → first_met (book_grounds book) ≡ of_book →
    first_met (mark_grounds text book) ≡ found_with of_book
long_found text book long (Err r) refused =
    in_two text book ∙ rw refused refl
long_found text book long (Ok tt) accepted =
    let few = few_members book accepted in
    let wrong = long_not_of_form (members book) text few long (table_not_of_form (members book) text) refl in
    in_two text book ∙ rw (accepted, wrong) refl

pub long_text :
    (text book : List ℕ) → table_room < length text →
    marks_answer (take (table_room + 1) text) book ≡ marks_answer text book
long_text text book long =
    let cut = take (table_room + 1) text in
    let size = length-take-le (table_room + 1) text (omega arith) in
    let of_book = first_met (book_grounds book) in
    ap (λ found. answer_if found (marks_of book cut)) (long_found cut book (omega arith) of_book refl)
    ∙ answer_alike of_book (marks_of book cut) (marks_of book text)
    ∙ sym (ap (λ found. answer_if found (marks_of book text)) (long_found text book long of_book refl))
