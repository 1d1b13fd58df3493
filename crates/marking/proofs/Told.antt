-- What is told of the first entries: counting one entry more tells of one more, and a line's entries, counted one after
-- the other, are those from its first on.
use Rattle.std.proofs.Common.{◌≡◌, ℕ, zero, suc, ◌+◌, ◌*◌, ◌<◌, ◌≤◌, refl, sym, ap, ap₂, ◌∙◌, arith}
use Rattle.std.proofs.Common.{cond, List, [], get_or}
use Rattle.std.specs.Prelude.{Option, Some, None}
use Rattle.std.specs.Option.{option_map, option_or}
use Rattle.std.proofs.lemmas.Nat.{div-mul-add, mod-mul-add}
use native.Mathlib.Nat.{add-zero}
use Rattle.numbers.specs.Sums.{sum_below}
use Rattle.book.specs.Fields.{members}
use Rattle.printed.specs.declared.mark.Mark.{Mark}
use Rattle.printed.specs.declared.mark.Mark.TheVariants.{Right, Close, Wrong}
use Rattle.marking.specs.Lines.{lines}
use Rattle.marking.specs.Marks.{mark_in, mark_at, place_of, same_mark, count_of, first_wrong, tally_of}
use Rattle.marking.specs.declared.tally.Marks.{Marks}
use Rattle.marking.specs.Private.Counted.{counted, counted_to, entries_in}

pub none_told : (n : ℕ) (marks : ℕ → Mark) →
    tally_of n marks 0 ≡ record { right = 0; close = 0; wrong = 0; first = None }
unfolding sum_below first_wrong
none_told n marks = refl

-- One more of a mark, and the place of entry k where it is wrong and none was before.
module _ (n k r c w : ℕ) where
  by_mark : (mark : Mark) (first : Option ℕ) →
      ◌≡◌ {A = Marks}
      (record {
        right = r + cond (same_mark Right mark) 1 0;
        close = c + cond (same_mark Close mark) 1 0;
        wrong = w + cond (same_mark Wrong mark) 1 0;
        first = option_map (place_of n) (option_or first (cond (same_mark Wrong mark) (Some k) None));
      })
      (counted (record { right = r; close = c; wrong = w; first = option_map (place_of n) first }) mark (place_of n k))
  unfolding counted
  by_mark Right None = rw (add-zero c, add-zero w) refl
  by_mark Right (Some j) = rw (add-zero c, add-zero w) refl
  by_mark Close None = rw (add-zero r, add-zero w) refl
  by_mark Close (Some j) = rw (add-zero r, add-zero w) refl
  by_mark Wrong None = rw (add-zero r, add-zero c) refl
  by_mark Wrong (Some j) = rw (add-zero r, add-zero c) refl

one_told :
    (n : ℕ) (marks : ℕ → Mark) (k : ℕ) →
    tally_of n marks (suc k) ≡ counted (tally_of n marks k) (marks k) (place_of n k)
unfolding sum_below first_wrong
one_told n marks k =
    by_mark n k (count_of Right marks k) (count_of Close marks k) (count_of Wrong marks k) (marks k)
    (first_wrong marks k)

-- Entry number × n + i is member i's on that line.
module _ (book text : List ℕ) (number : ℕ) where
  abbrev n : ℕ
  n = members book

  abbrev line : List ℕ
  line = get_or (lines text) number []

  at_place : (i : ℕ) → i < n → place_of n (number * n + i) ≡ record { line = number + 1; member = i }
  at_place i l = rw (div-mul-add number n i l, mod-mul-add number n i l) refl

  its_mark : (i : ℕ) → i < n → mark_at book text (number * n + i) ≡ mark_in book line i
  its_mark i l = rw (div-mul-add number n i l, mod-mul-add number n i l) refl

  pub line_told :
      (i : ℕ) → i ≤ n →
      counted_to (tally_of n (mark_at book text) (number * n)) (mark_in book line) number i
      ≡ tally_of n (mark_at book text) (number * n + i)
  unfolding counted_to
  line_told zero le = ap (tally_of n (mark_at book text)) (sym (add-zero (number * n)))
  line_told (suc i) le =
      ap (λ marks. counted marks (mark_in book line i) (record { line = number + 1; member = i }))
      (line_told i (omega arith))
      ∙ ap₂ (counted (tally_of n (mark_at book text) (number * n + i)))
      (sym (its_mark i (omega arith))) (sym (at_place i (omega arith)))
      ∙ sym (one_told n (mark_at book text) (number * n + i))
      ∙ ap (tally_of n (mark_at book text)) (omega arith)

  pub whole_line_told :
      counted_to (tally_of n (mark_at book text) (number * n)) (mark_in book line) number n
      ≡ tally_of n (mark_at book text) ((number + 1) * n)
  whole_line_told =
      line_told n (omega arith) ∙ ap (tally_of n (mark_at book text)) (omega arith)

-- Each entry has one of the marks.
one_of_each : (r c w : ℕ) (mark : Mark) →
    r + cond (same_mark Right mark) 1 0 + (c + cond (same_mark Close mark) 1 0) + (w + cond (same_mark Wrong mark) 1 0)
    ≡ suc (r + c + w)
one_of_each r c w Right = omega arith
one_of_each r c w Close = omega arith
one_of_each r c w Wrong = omega arith

pub all_told : (n : ℕ) (marks : ℕ → Mark) (k : ℕ) → entries_in (tally_of n marks k) ≡ k
unfolding sum_below
all_told n marks zero = refl
all_told n marks (suc k) =
    one_of_each (count_of Right marks k) (count_of Close marks k) (count_of Wrong marks k) (marks k)
    ∙ ap suc (all_told n marks k)
