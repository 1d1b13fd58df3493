-- A rate that is accepted has at most six digits, and an accepted book at most 16 members, so no line is longer than
-- its room. A text is written only where every ground passes, the last among them; and with room for the longest the
-- last ground is never met.
use Prim.Native.Nat.{ℕ, ◌≤◌}
use native.Mathlib.Omega.{arith}
use Rattle.std.specs.Prelude.{pos, Ok, Err}
use mathlib.Core.Path.{◌≡◌, refl, sym, ◌∙◌}
use mathlib.Core.Bool.{Bool, true, false}
use mathlib.Core.List.{List}
use lib.ListN.{length}
use borrow.Author.Tests.{ltb-true, ltb-false}
use Rattle.refusals.specs.Grounds.{first_met, or_else, Checked, answer_if, answer_number}
use Rattle.refusals.specs.declared.Refusal.{Refusal}
use Rattle.refusals.specs.declared.Refusal.TheVariants.{BufferTooShort}
use Rattle.refusals.proofs.FirstMet.{both_pass, not_met}
use Rattle.refusals.specs.Grounds.{refusal_number, refused_number}
use Rattle.refusals.proofs.Numbers.{no_count, same_number}
use Rattle.refusals.proofs.OtherNumber.{other_number}
use Rattle.book.specs.BookGrounds.{Accepted}
use Rattle.book.proofs.Ranges.{few_members}
use Rattle.book.specs.Rates.{max_rate}
use Rattle.balance.proofs.Call.CallAnswers.{filled_passed}
use Rattle.text.proofs.Digits.{decimal_below}
use Rattle.text.proofs.Pieces.{each_at_most}
use Rattle.tables.specs.Table.{rate_line, table_text}
use Rattle.tables.specs.Answers.{line_room, table_room, buffer_too_short, table_grounds, table_answer, earlier_grounds}
use Rattle.tables.specs.Promises.{TablePromises}
use Rattle.tables.specs.Private.Tabulable.{Tabulable}
use Rattle.tables.proofs.RateLine.{line_length}
use Rattle.tables.proofs.ByChecks.{passed, refused_if, in_two}
use Rattle.tables.proofs.LongBooks.{long_book_alike}

pub table_fits : (rates book : List ℕ) → Accepted book → Tabulable rates → length (table_text book rates) ≤ table_room
table_fits rates book accepted given =
    let few = few_members book accepted in
    let line : (k v : ℕ) → v ≤ max_rate → length (rate_line book k v) ≤ line_room =
    λ k v low. omega (arith, line_length book accepted v k, decimal_below 5 v (omega arith))
    in
    let all = each_at_most (rate_line book) (λ v. v ≤ max_rate) line_room line 0 rates given.low in
    omega (arith, given.few)

tabled_refused :
    (found : Checked) (size : ℕ) → answer_number (answer_if found size) ≡ refused_number BufferTooShort →
    (r : Refusal) × (found ≡ Err r) × (refusal_number r ≡ refusal_number BufferTooShort)
tabled_refused (Ok tt) size e = absurd (no_count BufferTooShort size (sym e))
tabled_refused (Err r) size e = (r, refl, same_number r BufferTooShort e)

-- What is found of checks that cannot find r is not r; of what comes after them it can be.
from_last :
    (found : Checked) {r : Refusal} {last : Checked} → (found ≡ Err r → ⊥) →
    or_else found last ≡ Err r → (found ≡ Ok tt) × (last ≡ Err r)
from_last (Ok tt) other e = (refl, e)
from_last (Err s) other e = absurd (other e)

was_short : (short : Bool) {r : Refusal} → refused_if short ≡ Err r → short ≡ true
was_short true e = refl
was_short false e = cc

module _ (rates book : List ℕ) (capacity : ℕ) where
  within : (n : ℕ) → answer_number (table_answer rates book capacity) ≡ pos n → (n ≤ capacity) × (n ≤ table_room)
  within n answered =
      let answer =
      filled_passed (first_met (table_grounds rates book capacity)) (length (table_text book rates)) n answered in
      let both = both_pass (first_met (earlier_grounds rates book)) _ (sym (in_two rates book capacity) ∙ answer.0) in
      let not-short = not_met (buffer_too_short rates book capacity) _ _ both.1 in
      let capacity-for-all = ltb-false capacity (length (table_text book rates)) not-short.0 in
      let size = answer.1 in
      let checked = passed rates book both.0 in
      (omega arith, omega (arith, table_fits rates book checked.0 checked.1))

  enough : table_room ≤ capacity → answer_number (table_answer rates book capacity) ≡ refused_number BufferTooShort → ⊥
  enough large answered =
      let refused =
      tabled_refused (first_met (table_grounds rates book capacity)) (length (table_text book rates)) answered in
      let found =
      from_last (first_met (earlier_grounds rates book))
      (λ e. other_number 21 (earlier_grounds rates book) refl e refused.2)
      (sym (in_two rates book capacity) ∙ refused.1)
      in
      let short =
      ltb-true capacity (length (table_text book rates)) (was_short (buffer_too_short rates book capacity) found.1) in
      let checked = passed rates book found.0 in
      omega (arith, table_fits rates book checked.0 checked.1)

pub table_promises : TablePromises
table_promises = record { within = within; enough = enough; long_book = long_book_alike }
