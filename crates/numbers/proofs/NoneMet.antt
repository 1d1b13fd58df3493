-- A condition that is false has no part that is true: what the tests of a ground say once it is not met.
use Prim.Native.Nat.{ℕ, zero, suc, ◌<◌}
use native.Mathlib.Nat.{eq-or-lt_of_le, le_of_suc-le-suc}
use native.Mathlib.Omega.{arith}
use mathlib.Core.Path.{◌≡◌, refl, sym, subst}
use mathlib.Core.Bool.{Bool, true, false, true≢false, ◌||◌}
use mathlib.Core.Logic.{◌⊎◌, inl, inr}
use Rattle.numbers.specs.Tests.{some_below}

pub neither : (a b : Bool) → (a || b) ≡ false → (a ≡ false) × (b ≡ false)
neither true b e = absurd (true≢false e)
neither false b e = (refl, e)

pub none_below : (n : ℕ) (p : ℕ → Bool) → some_below n p ≡ false → (k : ℕ) → k < n → p k ≡ false
unfolding some_below
none_below zero p e k l = absurd (omega arith)
none_below (suc n) p e k l = last_or_before (eq-or-lt_of_le (le_of_suc-le-suc l)) (none_below n p (neither _ _ e).0 k)
  where
    last_or_before : (k ≡ n) ⊎ (k < n) → (k < n → p k ≡ false) → p k ≡ false
    last_or_before (inl same) before = subst (λ j. p j ≡ false) (sym same) (neither (some_below n p) (p n) e).1
    last_or_before (inr h) before = before h
