-- The factor call keeps its list's length, so each row stays in its places: the rows of some rates and then of later
-- ones are two runs, the later one over what stands past the earlier rows.
use Prim.Native.Nat.{ℕ, suc, ◌+◌, ◌*◌}
use native.Mathlib.Nat.{zero-mul, suc-mul}
use native.Mathlib.Omega.{arith}
use mathlib.Core.Path.{◌≡◌, refl, ap, ap₂, sym, ◌∙◌}
use mathlib.Core.List.{List, [], ◌∷◌, ◌++◌}
use Rattle.std.specs.Prelude.{Ok, Err}
use Rattle.std.proofs.lemmas.List.{length-append, length-drop, append_assoc, take-take, drop-take, drop-drop}
use Rattle.std.proofs.lemmas.List.{take-append-drop}
use lib.ListN.{length, take, drop}
use Rattle.refusals.specs.Grounds.{first_met, Checked, written_if}
use Rattle.balance.specs.Factors.{factor_grounds, factors_at, factor_list}
use Rattle.balance.proofs.Call.CallAnswers.{factors_length}
use Rattle.balance.proofs.Call.CallPasses.{call_passes}
use Rattle.portfolios.specs.Rows.{rows_at, answers_at}

-- A list is written in its first places only where the checks pass, and then it has enough of them.
pub called_length : (v : ℕ) (book list : List ℕ) → length (factor_list v book list) ≡ length list
called_length v book list = by (first_met (factor_grounds v book (length list))) refl
  where
    by : (found : Checked) → first_met (factor_grounds v book (length list)) ≡ found →
        length (written_if found (factors_at book v) list) ≡ length list
    by (Ok tt) passed =
        let passes = call_passes v book (length list) passed in
        let size = factors_length book v passes.accepted in
        let room = passes.enough in
        omega (arith, length-append {A = ℕ}, length-drop {A = ℕ})
    by (Err r) refused = refl

pub rows_length : (width : ℕ) (book rates list : List ℕ) → length (rows_at width book rates list) ≡ length list
unfolding rows_at
rows_length width book [] list = refl
rows_length width book (v ∷ rates) list =
    length-append (factor_list v book (take width list)) (rows_at width book rates (drop width list))
    ∙ ap₂ (λ n m. n + m) (called_length v book (take width list)) (rows_length width book rates (drop width list))
    ∙ sym (length-append (take width list) (drop width list))
    ∙ ap length (take-append-drop width list)

pub answers_length : (width : ℕ) (book rates list : List ℕ) →
    length (answers_at width book rates list) ≡ length rates
unfolding answers_at
answers_length width book [] list = refl
answers_length width book (v ∷ rates) list = ap suc (answers_length width book rates (drop width list))

-- One row more: the places of n rows past the first.
module _ (width n : ℕ) (list : List ℕ) where
  more : suc n * width ≡ width + n * width
  more = omega (arith, suc-mul n width)

  pub past_more : drop (suc n * width) list ≡ drop (n * width) (drop width list)
  past_more = rw (more, drop-drop) refl

  first_of_more : take width (take (suc n * width) list) ≡ take width list
  first_of_more = take-take width (suc n * width) list (omega (arith, more))

  later_of_more : drop width (take (suc n * width) list) ≡ take (n * width) (drop width list)
  later_of_more = rw (more, drop-take) refl

pub rows_append : (width : ℕ) (book rates later list : List ℕ) →
    rows_at width book (rates ++ later) list
    ≡ rows_at width book rates (take (length rates * width) list)
    ++ rows_at width book later (drop (length rates * width) list)
unfolding rows_at
rows_append width book [] later list = rw (zero-mul width) refl
rows_append width book (v ∷ rates) later list =
    let n = length rates in
    rw (
      append_assoc,
      first_of_more width n list,
      later_of_more width n list,
      past_more width n list,
      rows_append width book rates later (drop width list),
    ) refl

pub answers_append : (width : ℕ) (book rates later list : List ℕ) →
    answers_at width book (rates ++ later) list
    ≡ answers_at width book rates (take (length rates * width) list)
    ++ answers_at width book later (drop (length rates * width) list)
unfolding answers_at
answers_append width book [] later list = rw (zero-mul width) refl
answers_append width book (v ∷ rates) later list =
    let n = length rates in
    rw (
      first_of_more width n list,
      later_of_more width n list,
      past_more width n list,
      answers_append width book rates later (drop width list),
    ) refl
