-- What the checks before the last ensure where they pass. The last is whether there is room.
use Rattle.std.specs.Prelude.{Ok, Err}
use Prim.Native.Nat.{ℕ, ◌≤◌, ◌<◌}
use mathlib.Core.Path.{◌≡◌, sym, ◌∙◌}
use mathlib.Core.Bool.{Bool, false, cond}
use mathlib.Core.List.{List, [], ◌∷◌}
use lib.ListN.{length, get_or}
use lib.Dec.{ltb}
use borrow.Author.Tests.{ltb-false}
use Rattle.refusals.specs.Grounds.{ground_of, first_met, or_else, Checked}
use Rattle.refusals.specs.declared.Refusal.TheVariants.{RateCountOutOfRange, BufferTooShort}
use Rattle.refusals.proofs.FirstMet.{first_of_both, not_met, both_pass, neither}
use Rattle.numbers.proofs.NoneMet.{none_below}
use Rattle.book.specs.Rates.{max_rate}
use Rattle.book.specs.BookGrounds.{book_grounds, Accepted}
use Rattle.tables.specs.Answers.{max_rates, some_rate_too_high, rate_count_out_of_range}
use Rattle.tables.specs.Answers.{buffer_too_short, earlier_grounds, table_grounds}
use Rattle.tables.specs.Private.Tabulable.{Tabulable}

-- What a check for room finds.
abbrev pub refused_if : Bool → Checked
refused_if short = cond short (Err BufferTooShort) (Ok tt)

pub rate_low :
    (rates : List ℕ) → some_rate_too_high rates ≡ false → (i : ℕ) → i < length rates → get_or rates i 0 ≤ max_rate
unfolding some_rate_too_high
rate_low rates none i l =
    ltb-false max_rate (get_or rates i 0) (none_below (length rates) (λ k. ltb max_rate (get_or rates k 0)) none i l)

module _ (rates book : List ℕ) where
  -- By parts: the rates' size, the book, and the rates' number.
  parts : first_met (earlier_grounds rates book) ≡ Ok tt →
      (some_rate_too_high rates ≡ false) × Accepted book × (1 ≤ length rates) × (length rates ≤ max_rates)
  parts found =
      let count = ground_of RateCountOutOfRange (rate_count_out_of_range rates) ∷ [] in
      let rate = not_met (some_rate_too_high rates) _ _ found in
      let both = sym (first_of_both (book_grounds book) count) ∙ rate.1 in
      let rest = both_pass (first_met (book_grounds book)) (first_met count) both in
      let within = not_met (rate_count_out_of_range rates) _ _ rest.1 in
      let counted = neither (ltb (length rates) 1) (ltb max_rates (length rates)) within.0 in
      (rate.0, rest.0, ltb-false (length rates) 1 counted.0, ltb-false max_rates (length rates) counted.1)

  pub passed : first_met (earlier_grounds rates book) ≡ Ok tt → Accepted book × Tabulable rates
  passed found =
      let part = parts found in
      (part.1, record { low = rate_low rates part.0; few = part.3 })

  pub some_rate : first_met (earlier_grounds rates book) ≡ Ok tt → 1 ≤ length rates
  some_rate found = (parts found).2

  -- What the last check finds, and what all of them find.
  abbrev pub last : ℕ → Checked
  last capacity = refused_if (buffer_too_short rates book capacity)

  pub in_two :
      (capacity : ℕ) →
      first_met (table_grounds rates book capacity) ≡ or_else (first_met (earlier_grounds rates book)) (last capacity)
  in_two capacity =
      first_of_both (earlier_grounds rates book) (ground_of BufferTooShort (buffer_too_short rates book capacity) ∷ [])
