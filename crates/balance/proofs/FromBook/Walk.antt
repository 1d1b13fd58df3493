-- The lists of feeds that a walk along next gives: where no first or next exceeds m, each listed feed is 1 to m, and a
-- list that stops short of its bound is whole.
use Prim.Native.Nat.{ℕ, zero, suc, ◌≤◌, ◌<◌}
use native.Mathlib.Nat.{le_of_suc-le-suc}
use native.Mathlib.Omega.{arith}
use mathlib.Core.Path.{◌≡◌, refl, ap}
use mathlib.Core.List.{List, [], ◌∷◌, ◌++◌}
use lib.ListN.{length, get_or}
use Rattle.book.specs.Fields.{along}

-- Every feed listed is 1 to m.
abbrev pub Listed : ℕ → List ℕ → Type 0
Listed m [] = Unit {0}
Listed m (j ∷ js) = (0 < j) × (j ≤ m) × Listed m js

pub listed_append : (m : ℕ) (js more : List ℕ) → Listed m js → Listed m more → Listed m (js ++ more)
listed_append m [] more these those = those
listed_append m (j ∷ js) more these those = (these.0, these.1, listed_append m js more these.2 those)

module _ (following : ℕ → ℕ) where
  pub along_listed : (m : ℕ) → ((j : ℕ) → j < m → following (suc j) ≤ m) → (bound j : ℕ) → j ≤ m →
      Listed m (along following bound j)
  unfolding along
  along_listed m each zero j le = tt
  along_listed m each (suc bound) zero le = tt
  along_listed m each (suc bound) (suc j) le =
      (omega arith, le, along_listed m each bound (following (suc j)) (each j le))

  -- A list that stops short of its bound is the list at any other bound that it fits.
  pub along_short :
      (other bound j : ℕ) → length (along following bound j) ≤ other → length (along following bound j) < bound →
      along following other j ≡ along following bound j
  unfolding along
  along_short other zero j fits short = absurd (omega arith)
  along_short zero (suc bound) zero fits short = refl
  along_short (suc other) (suc bound) zero fits short = refl
  along_short zero (suc bound) (suc j) fits short = absurd (omega arith)
  along_short (suc other) (suc bound) (suc j) fits short =
      ap (λ js. suc j ∷ js)
      (along_short other bound (following (suc j)) (le_of_suc-le-suc fits) (le_of_suc-le-suc short))

-- What stands at a place of such a list.
pub listed_at : (m : ℕ) (js : List ℕ) → Listed m js → (k : ℕ) → k < length js →
    (0 < get_or js k 0) × (get_or js k 0 ≤ m)
listed_at m [] listed k l = absurd (omega arith)
listed_at m (j ∷ js) listed zero l = (listed.0, listed.1)
listed_at m (j ∷ js) listed (suc k) l = listed_at m js listed.2 k (le_of_suc-le-suc l)
