-- A list in which each of 1 to m comes up at most once, and nothing else, adds up to no more than 1 to m do.
-- Feed j stands at place j - 1, and a list of places is sorted as feeds are by origin, each with a share of one.
use Prim.Native.Nat.{ℕ, zero, suc, ◌≤◌, ◌<◌}
use native.Mathlib.Nat.{mul-le-mul_right, le_trans}
use native.Mathlib.Omega.{arith}
use mathlib.Core.Path.{◌≡◌, refl, sym, ◌∙◌}
use mathlib.Core.List.{List, [], ◌∷◌}
use lib.Dec.{eqb, eqb-zero-suc, eqb-suc-zero, eqb-suc-suc}
use lib.ListN.{length}
use Rattle.book.specs.declared.feed.Feed.{Feed}
use Rattle.balance.specs.Sound.{FromBelow, shares_from}
use Rattle.book.specs.BookGrounds.{occurrences}
use Rattle.balance.proofs.AnyChain.Inflow.{inflow_of}
use Rattle.numbers.specs.Sums.{sum_below}
use Rattle.numbers.proofs.Sums.{sum_mono}
use Rattle.balance.proofs.AnyChain.Origin.{inflow_by_origin}
use Rattle.balance.proofs.FromBook.Walk.{Listed}

abbrev places : List ℕ → List Feed
places [] = []
places (zero ∷ js) = places js
places (suc j ∷ js) = record { share = 1; from = j } ∷ places js

-- The sum of a over the places of a list.
abbrev pub sum_over : (ℕ → ℕ) → List ℕ → ℕ
sum_over a js = inflow_of a (places js)

places_below : (m : ℕ) (js : List ℕ) → Listed m js → FromBelow m (places js)
places_below m [] listed = tt
places_below m (zero ∷ js) listed = places_below m js listed.2
places_below m (suc j ∷ js) listed = (listed.1, places_below m js listed.2)

eqb_sym : (a b : ℕ) → eqb a b ≡ eqb b a
eqb_sym zero zero = refl
eqb_sym zero (suc b) = eqb-zero-suc b ∙ sym (eqb-suc-zero b)
eqb_sym (suc a) zero = eqb-suc-zero a ∙ sym (eqb-zero-suc a)
eqb_sym (suc a) (suc b) = eqb-suc-suc a b ∙ eqb_sym a b ∙ sym (eqb-suc-suc b a)

places_count : (i : ℕ) (js : List ℕ) → shares_from i (places js) ≡ occurrences (suc i) js
unfolding occurrences
places_count i [] = refl
places_count i (zero ∷ js) = rw (eqb-suc-zero i) (omega (arith, places_count i js))
places_count i (suc j ∷ js) = rw (eqb-suc-suc i j, eqb_sym j i, places_count i js)

pub once_each :
    (a : ℕ → ℕ) (m : ℕ) (js : List ℕ)
    → Listed m js
    → ((j : ℕ) → j < m → occurrences (suc j) js ≤ 1)
    → sum_over a js ≤ sum_below m a
once_each a m js listed once =
    le_trans
    (inflow_by_origin a m (places js) (places_below m js listed))
    (sum_mono
    m
    (λ i l.
    let few : shares_from i (places js) ≤ 1 = rw (places_count i js) (once i l) in
    omega (arith, mul-le-mul_right (a i) few)))

pub length_sum : (m : ℕ) (js : List ℕ) → Listed m js → length js ≡ sum_over (λ j. 1) js
length_sum m [] listed = refl
length_sum m (zero ∷ js) listed = absurd (omega (arith, listed.0))
length_sum m (suc j ∷ js) listed = let ih = length_sum m js listed.2 in omega arith

pub length_at_most : (m : ℕ) (js : List ℕ) → Listed m js → ((j : ℕ) → j < m → occurrences (suc j) js ≤ 1) →
    length js ≤ m
unfolding sum_below
length_at_most m js listed once = omega (arith, length_sum m js listed, once_each (λ j. 1) m js listed once, ones m)
  where
    ones : (m : ℕ) → sum_below m (λ j. 1) ≡ m
    ones zero = refl
    ones (suc m) = let ih = ones m in omega arith
