-- A factor above 0 that every weight and B have in common changes nothing: Low, High and B carry it alike, and a
-- comparison or a quotient of two numbers that carry it is that of the numbers.
use Prim.Native.Nat.{ℕ, ◌+◌, ◌*◌, ◌<◌, min}
use native.Mathlib.Nat.{mul-pos, pos_of_ne-zero, mul-le-mul_left, mul-div-mul_left}
use native.Mathlib.Omega.{arith}
use mathlib.Core.Path.{◌≡◌, refl, ap, ap₂, ◌∙◌}
use mathlib.Core.Bool.{Bool, true, false}
use lib.Dec.{leb, eqb}
use borrow.Author.Tests.{leb-true, leb-false, le-leb, lt-leb, eqb-true, eqb-false, eq-eqb, ne_eqb}
use Rattle.numbers.specs.Sums.{sum_below}
use Rattle.numbers.proofs.Sums.{sum_same, sum_scale}
use Rattle.balance.specs.Balance.{G}
use Rattle.verdict.specs.Verdict.{Assessment, low, high, verdict_of, capped_quotient, max_level, level}
use Rattle.verdict.specs.CommonFactor.{CommonFactor, Unchanged}

module _ (k : ℕ) (pos : 0 < k) where
  leb_by : (x y : ℕ) (t : Bool) → leb x y ≡ t → leb (k * x) (k * y) ≡ t
  leb_by x y true e = le-leb (k * x) (k * y) (mul-le-mul_left k (leb-true x y e))
  leb_by x y false e = lt-leb (k * x) (k * y) (omega (arith, mul-le-mul_left k (leb-false x y e)))

  leb_same : (x y : ℕ) → leb (k * x) (k * y) ≡ leb x y
  leb_same x y = leb_by x y (leb x y) refl

  zero_by : (x : ℕ) (t : Bool) → eqb x 0 ≡ t → eqb (k * x) 0 ≡ t
  zero_by x true e = eq-eqb (k * x) 0 (omega (arith, ap (λ y. k * y) (eqb-true x 0 e)))
  zero_by x false e = ne_eqb (k * x) 0 (λ none. omega (arith, none, mul-pos pos (pos_of_ne-zero (eqb-false x 0 e))))

  verdict_same : (L H B : ℕ) → verdict_of (k * L) (k * H) (k * B) ≡ verdict_of L H B
  verdict_same L H B = simp leb_same

  quotient_same : (cap x y : ℕ) → capped_quotient cap (k * x) (k * y) ≡ capped_quotient cap x y
  quotient_same cap x y = rw (zero_by y (eqb y 0) refl, mul-div-mul_left x y pos)

  module _ (a b : Assessment) (common : CommonFactor k a b) where
    -- Low and High are sums of weight times factor, or times a number made of it.
    sum_carries :
        (made : ℕ → ℕ → ℕ) →
        sum_below b.count (λ i. b.weight i * made i (b.factor i))
        ≡ sum_below a.count (λ i. a.weight i * made i (a.factor i)) * k
    sum_carries made =
        rw common.count
        (sum_same a.count (λ i l. ap₂ (λ w f. w * made i f) (common.weight i l) (common.factor i l) ∙ omega arith)
        ∙ sum_scale a.count k (λ i. a.weight i * made i (a.factor i)))

    low_carries : (C : ℕ) → low b C ≡ k * low a C
    low_carries C = ap (λ s. C * s) (sum_carries (λ i f. f)) ∙ omega arith

    high_carries : (C : ℕ) → high b C ≡ k * high a C
    high_carries C = ap (λ s. C * s) (sum_carries (λ i f. min (f + 2 * i) G)) ∙ omega arith

    pub common_factor : Unchanged a b
    unfolding level
    common_factor =
        record {
          verdict =
              λ C.
              ap₂ (λ L H. verdict_of L H b.bound) (low_carries C) (high_carries C)
              ∙ ap (verdict_of (k * low a C) (k * high a C)) common.bound
              ∙ verdict_same (low a C) (high a C) a.bound;
          level = rw (high_carries 1, common.bound) (quotient_same max_level a.bound (high a 1));
        }
