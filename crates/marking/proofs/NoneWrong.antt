-- No entry of a table that is written of a book's own factors is marked wrong: what is read of a line is its rate and
-- the numbers that R-3 writes for the factors at it. So none is counted as wrong, and none is the first.
use Prim.Native.Nat.{ℕ, zero, suc, ◌*◌, ◌/◌, ◌%◌, ◌<◌}
use native.Mathlib.Omega.{arith}
use native.Mathlib.Nat.{mod-lt, div-lt_iff_lt-mul}
use mathlib.Core.Path.{◌≡◌, refl, sym, ap, ap₂, ◌∙◌}
use mathlib.Core.Bool.{false, cond}
use mathlib.Core.List.{List, []}
use lib.ListN.{length, get_or}
use Rattle.std.specs.Prelude.{None}
use Rattle.std.specs.Option.{option_map}
use Rattle.numbers.specs.Sums.{sum_below}
use Rattle.book.specs.Fields.{members}
use Rattle.book.specs.BookGrounds.{Accepted}
use Rattle.book.proofs.Ranges.{accepted_ranges}
use Rattle.balance.specs.Balance.{raised}
use Rattle.balance.specs.Factors.{factor_at}
use Rattle.balance.proofs.Promised.{factor_at_most_g}
use Rattle.printed.specs.Mark.{mark_of}
use Rattle.printed.specs.declared.mark.Mark.{Mark}
use Rattle.printed.specs.declared.mark.Mark.TheVariants.{Right, Close, Wrong}
use Rattle.printed.proofs.OwnEntry.{own_share, own_never_wrong}
use Rattle.marking.specs.Lines.{lines}
use Rattle.marking.specs.Marks.{mark_in, mark_at, place_of, same_mark, count_of, first_wrong, marks_of}
use Rattle.marking.specs.Promises.{ReadBack, written}
use Rattle.marking.proofs.OwnTable.{own_shares}

not_same : (mark : Mark) → (mark ≡ Wrong → ⊥) → same_mark Wrong mark ≡ false
not_same Right other = refl
not_same Close other = refl
not_same Wrong other = absurd (other refl)

module _ (marks : ℕ → Mark) where
  none_counted : (k : ℕ) → ((j : ℕ) → j < k → marks j ≡ Wrong → ⊥) → count_of Wrong marks k ≡ 0
  unfolding sum_below
  none_counted zero none = refl
  none_counted (suc k) none =
      omega (
        arith,
        none_counted k (λ j l. none j (omega arith)),
        ap {B = ℕ} (λ b. cond b 1 0) (not_same (marks k) (none k (omega arith))),
      )

  none_first : (k : ℕ) → ((j : ℕ) → j < k → marks j ≡ Wrong → ⊥) → first_wrong marks k ≡ None
  unfolding first_wrong
  none_first zero none = refl
  none_first (suc k) none =
      rw (none_first k (λ j l. none j (omega arith)), not_same (marks k) (none k (omega arith))) refl

module _ (book : List ℕ) (accepted : Accepted book) (rates : List ℕ)
    (read : ReadBack (members book) rates (own_shares book rates)) where
  abbrev text : List ℕ
  text = written (members book) rates (own_shares book rates)

  own_mark : (k i : ℕ) → k < length rates → i < members book →
      let factor = factor_at book (get_or rates k 0) i in
      mark_in book (get_or (lines text) k []) i ≡ mark_of (own_share factor) factor (raised i factor)
  unfolding mark_in
  own_mark k i on_line of_member =
      ap₂ (λ share rate. mark_of share (factor_at book rate i) (raised i (factor_at book rate i)))
      (read.number k i on_line of_member) (read.rate k on_line)

  entry_not_wrong : (k i : ℕ) → k < length rates → i < members book →
      mark_in book (get_or (lines text) k []) i ≡ Wrong → ⊥
  entry_not_wrong k i on_line of_member wrong =
      let factor = factor_at book (get_or rates k 0) i in
      let whole = factor_at_most_g book (get_or rates k 0) i accepted of_member in
      own_never_wrong factor (raised i factor) whole (omega arith) (sym (own_mark k i on_line of_member) ∙ wrong)

  pub none_wrong : (k : ℕ) → k < length (lines text) * members book → mark_at book text k ≡ Wrong → ⊥
  none_wrong k l =
      let some : 0 < members book = (accepted_ranges book accepted).members_count.from in
      let within : k < length rates * members book = omega (arith, ap (λ count. count * members book) read.count) in
      entry_not_wrong (k / members book) (k % members book) ((div-lt_iff_lt-mul some).1 within) (mod-lt k some)

  pub no_wrong : ((marks_of book text).wrong ≡ 0) × ((marks_of book text).first ≡ None)
  unfolding marks_of
  no_wrong = (
    none_counted (mark_at book text) _ none_wrong,
    ap (option_map (place_of (members book))) (none_first (mark_at book text) _ none_wrong),
  )
