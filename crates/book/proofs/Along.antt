-- The feeds along next, one at a time: a list from j on is j and then the list from the feed after it, with one fewer
-- to come; it ends at feed 0 and at the cut.
use Prim.Native.Nat.{ℕ, zero, suc, ◌-◌, ◌≤◌, ◌<◌}
use mathlib.Core.Path.{◌≡◌, refl}
use mathlib.Core.List.{[], ◌∷◌}
use lib.ListN.{length}
use native.Mathlib.Numerals.{sub-one}
use native.Mathlib.Omega.{arith}
use Rattle.book.specs.Fields.{along}

module _ (following : ℕ → ℕ) where
  pub along_end : (left : ℕ) → along following left 0 ≡ []
  unfolding along
  along_end zero = refl
  along_end (suc left) = refl

  pub along_cut : (j : ℕ) → along following 0 j ≡ []
  unfolding along
  along_cut j = refl

  pub along_step : (left j : ℕ) → 0 < j → 0 < left →
      along following left j ≡ j ∷ along following (left - 1) (following j)
  unfolding along
  along_step zero j h l = absurd (omega arith)
  along_step (suc left) zero h l = absurd (omega arith)
  along_step (suc left) (suc j) h l = rw sub-one

  -- No more are listed than the cut allows.
  pub along_within : (left j : ℕ) → length (along following left j) ≤ left
  unfolding along
  along_within zero j = omega arith
  along_within (suc left) zero = omega arith
  along_within (suc left) (suc j) = omega (arith, along_within left (following (suc j)))

pub ruleset steps = (along_end, along_cut, along_step)
