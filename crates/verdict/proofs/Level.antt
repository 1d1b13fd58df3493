-- The screening level is the largest concentration up to the cap whose verdict is 'below'.
-- High is the concentration times its value at 1, so 'below' asks for a product of at most B, and a capped quotient is
-- the largest such factor.
use Prim.Native.Nat.{ℕ, ◌*◌, ◌/◌, min}
use native.Mathlib.Nat.{le_refl, le_of_eq, le_trans, pos_of_ne-zero}
use native.Mathlib.Omega.{arith}
use mathlib.Core.Path.{◌≡◌, refl, ap, sym}
use mathlib.Core.Bool.{Bool, true, false, cond}
use lib.Dec.{eqb}
use borrow.Author.Tests.{eqb-true, eqb-false}
use Rattle.wide.specs.Quotient.{LargestQuotient}
use Rattle.wide.proofs.LargestFactor.{min_is, unique}
use Rattle.verdict.specs.Verdict.{Assessment, low, high, capped_quotient, max_level, level}
use Rattle.verdict.specs.Promises.{LevelPromise}
use Rattle.verdict.proofs.Verdicts.{says, below_if}

by_divisor : (cap a b : ℕ) (t : Bool) → eqb b 0 ≡ t → LargestQuotient a b cap (cond t cap (min cap (a / b)))
by_divisor cap a b true e =
    record { within = le_refl cap; fits = omega (arith, ap (λ t. cap * t) (eqb-true b 0 e)); largest = λ k l h. l }
by_divisor cap a b false e = min_is a b cap (pos_of_ne-zero (eqb-false b 0 e))

pub capped_quotient_largest : (cap a b : ℕ) → LargestQuotient a b cap (capped_quotient cap a b)
capped_quotient_largest cap a b = by_divisor cap a b (eqb b 0) refl

-- There is one such factor.
pub capped_is : {cap a b q : ℕ} → LargestQuotient a b cap q → q ≡ capped_quotient cap a b
capped_is found = unique found (capped_quotient_largest _ _ _)

high_scales : (a : Assessment) (C : ℕ) → high a C ≡ C * high a 1
high_scales a C = omega arith

pub level_promise : (a : Assessment) → LevelPromise a
unfolding level
level_promise a =
    let best = capped_quotient_largest max_level a.bound (high a 1) in
    record {
      within = best.within;
      is_below =
          below_if (low a (level a)) (high a (level a)) a.bound
          (le_trans (le_of_eq (high_scales a (level a))) best.fits);
      largest =
          λ C l e.
          best.largest C l (le_trans (le_of_eq (sym (high_scales a C))) (says (low a C) (high a C) a.bound e));
    }
