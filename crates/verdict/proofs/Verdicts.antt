-- What each verdict says of Low, High and B, and that a lower Low and High give no worse verdict.
-- Both are read off the two tests, High against B and then Low against B.
use Prim.Native.Nat.{ℕ, ◌≤◌, ◌<◌}
use native.Mathlib.Omega.{arith}
use mathlib.Core.Path.{◌≡◌, refl, subst}
use mathlib.Core.Bool.{Bool, true, false, cond}
use lib.Dec.{leb}
use borrow.Author.Tests.{leb-true, leb-false, le-leb}
use Rattle.verdict.specs.Verdict.{verdict_of, verdict_order}
use Rattle.verdict.specs.declared.verdict.Verdict.{Verdict}
use Rattle.verdict.specs.declared.verdict.Verdict.TheVariants.{Below, Close, Above}

abbrev pub Says : ℕ → ℕ → ℕ → Verdict → Type 0
Says L H B Below = H ≤ B
Says L H B Close = (B < H) × (L ≤ B)
Says L H B Above = (B < H) × (B < L)

by_low : (L H B : ℕ) → B < H → (t : Bool) → leb L B ≡ t → Says L H B (cond t Close Above)
by_low L H B h true e = (h, leb-true L B e)
by_low L H B h false e = (h, leb-false L B e)

by_high : (L H B : ℕ) (t : Bool) → leb H B ≡ t → Says L H B (cond t Below (cond (leb L B) Close Above))
by_high L H B true e = leb-true H B e
by_high L H B false e = by_low L H B (leb-false H B e) (leb L B) refl

said : (L H B : ℕ) → Says L H B (verdict_of L H B)
said L H B = by_high L H B (leb H B) refl

pub says : (L H B : ℕ) {v : Verdict} → verdict_of L H B ≡ v → Says L H B v
says L H B {v} e = subst (λ x. Says L H B x) e (said L H B)

pub below_if : (L H B : ℕ) → H ≤ B → verdict_of L H B ≡ Below
below_if L H B h = rw (le-leb H B h)

no_worse_of :
    (L L' H H' B : ℕ) → L' ≤ L → H' ≤ H → (v v' : Verdict) → Says L H B v → Says L' H' B v' →
    verdict_order v' ≤ verdict_order v
no_worse_of L L' H H' B l h Below Below s s' = omega arith
no_worse_of L L' H H' B l h Close Below s s' = omega arith
no_worse_of L L' H H' B l h Above Below s s' = omega arith
no_worse_of L L' H H' B l h Below Close s s' = omega arith
no_worse_of L L' H H' B l h Close Close s s' = omega arith
no_worse_of L L' H H' B l h Above Close s s' = omega arith
no_worse_of L L' H H' B l h Below Above s s' = omega arith
no_worse_of L L' H H' B l h Close Above s s' = omega arith
no_worse_of L L' H H' B l h Above Above s s' = omega arith

pub no_worse_of_lower :
    (L L' H H' B : ℕ) → L' ≤ L → H' ≤ H → verdict_order (verdict_of L' H' B) ≤ verdict_order (verdict_of L H B)
no_worse_of_lower L L' H H' B l h =
    no_worse_of L L' H H' B l h (verdict_of L H B) (verdict_of L' H' B) (said L H B) (said L' H' B)
