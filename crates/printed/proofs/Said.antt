-- What each mark says of the four comparisons of the ends.
use Prim.Native.Nat.{ℕ}
use mathlib.Core.Path.{◌≡◌, refl}
use mathlib.Core.Bool.{Bool, true, false, cond, not, ◌&&◌, ◌||◌}
use mathlib.Core.Logic.{◌⊎◌, inl, inr}
use Rattle.entry.specs.declared.scaling.Share.{Share}
use Rattle.printed.specs.Mark.{not_below, not_above, within, mark_of}
use Rattle.printed.specs.declared.mark.Mark.{Mark}
use Rattle.printed.specs.declared.mark.Mark.TheVariants.{Right, Close, Wrong}

-- p and q are whether each end is within, c whether the high end is not below, b whether the low end is not above.
abbrev marked : Bool → Bool → Bool → Bool → Mark
marked p q c b = cond (p && q) Right (cond (not c || not b) Wrong Close)

right_of : (p q c b : Bool) → marked p q c b ≡ Right → (p ≡ true) × (q ≡ true)
right_of true true c b e = (refl, refl)
right_of true false true true e = absurd cc
right_of true false true false e = absurd cc
right_of true false false b e = absurd cc
right_of false q true true e = absurd cc
right_of false q true false e = absurd cc
right_of false q false b e = absurd cc

wrong_of : (p q c b : Bool) → marked p q c b ≡ Wrong → (c ≡ false) ⊎ (b ≡ false)
wrong_of true true c b e = absurd cc
wrong_of p q false b e = inl refl
wrong_of p q c false e = inr refl
wrong_of true false true true e = absurd cc
wrong_of false q true true e = absurd cc

-- Both ends are in reach, and one of them is not within.
pub record Near (p q c b : Bool) : Type 0 where
  pub high_reaches : c ≡ true
  pub low_reaches : b ≡ true
  pub not_all : (p ≡ false) ⊎ (q ≡ false)

close_of : (p q c b : Bool) → marked p q c b ≡ Close → Near p q c b
close_of true true c b e = absurd cc
close_of true false true true e = record { high_reaches = refl; low_reaches = refl; not_all = inr refl }
close_of false q true true e = record { high_reaches = refl; low_reaches = refl; not_all = inl refl }
close_of true false true false e = absurd cc
close_of true false false b e = absurd cc
close_of false q true false e = absurd cc
close_of false q false b e = absurd cc

module _ (share : Share) (low high : ℕ) where
  pub right_said : mark_of share low high ≡ Right → (within share low 1 ≡ true) × (within share high 1 ≡ true)
  unfolding mark_of
  right_said e = right_of _ _ (not_below share high 1) (not_above share low 1) e

  pub wrong_said :
      mark_of share low high ≡ Wrong → (not_below share high 1 ≡ false) ⊎ (not_above share low 1 ≡ false)
  unfolding mark_of
  wrong_said e = wrong_of (within share low 1) (within share high 1) _ _ e

  pub close_said :
      mark_of share low high ≡ Close →
      Near (within share low 1) (within share high 1) (not_below share high 1) (not_above share low 1)
  unfolding mark_of
  close_said e = close_of _ _ _ _ e

-- Both halves of a test that is passed.
pub both_hold : (a b : Bool) → (a && b) ≡ true → (a ≡ true) × (b ≡ true)
both_hold true true e = (refl, refl)
both_hold true false e = absurd cc
both_hold false b e = absurd cc
