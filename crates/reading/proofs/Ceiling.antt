-- Laws of a quotient rounded up. It is the one q with a ≤ q·b < a + b, so equal fractions, a split numerator and a
-- ceiling of a ceiling each follow by multiplying these two bounds.
use Prim.Native.Nat.{ℕ, zero, suc, ◌+◌, ◌-◌, ◌*◌, ◌/◌, ◌%◌, ◌<◌, ◌≤◌}
use mathlib.Core.Path.{◌≡◌, ap}
use native.Mathlib.Nat.{le_antisymm, mul-le-mul_left, mul-le-mul_right, mul-lt-mul_of_pos_right, le_of_mul-le-mul_left}
use native.Mathlib.Nat.{lt_of_mul-lt-mul_left, lt_of_mul-lt-mul_right, div-add-mod, mod-lt}
use native.Mathlib.Omega.{arith}
use Rattle.std.specs.Int.{div_ceil}
use Rattle.std.proofs.lemmas.Grind.{div_ceil_times}
use Rattle.reading.specs.Reading.{rounded_up, SmallestNotBelow}

pub record Ceiling (a b q : ℕ) : Type 0 where
  pub not_below : a ≤ q * b
  pub within : q * b < a + b

pub rounded_up_is_ceiling : (a b : ℕ) → 0 < b → Ceiling a b (rounded_up a b)
rounded_up_is_ceiling a b h =
    let parts = div-add-mod (a + (b - 1)) b in
    let rest = mod-lt (a + (b - 1)) h in
    record { not_below = omega arith; within = omega arith }

-- So is the library's.
pub div_ceil_is_ceiling : (a b : ℕ) → 0 < b → Ceiling a b (div_ceil a b)
div_ceil_is_ceiling a b h =
    let bounds = div_ceil_times a b h in record { not_below = bounds.0; within = bounds.1 }

below_another : {a b p q : ℕ} → 0 < b → Ceiling a b p → Ceiling a b q → p ≤ q
below_another {a} {b} {p} {q} h x y =
    let l : p < suc q = lt_of_mul-lt-mul_left b (omega (arith, x.within, y.not_below)) in omega arith

pub unique : {a b p q : ℕ} → 0 < b → Ceiling a b p → Ceiling a b q → p ≡ q
unique h x y = le_antisymm (below_another h x y) (below_another h y x)

pub is_rounded_up : {a b q : ℕ} → 0 < b → Ceiling a b q → q ≡ rounded_up a b
is_rounded_up {a} {b} h x = unique h x (rounded_up_is_ceiling a b h)

pub div_ceil_is : (a b : ℕ) → 0 < b → div_ceil a b ≡ rounded_up a b
div_ceil_is a b h = is_rounded_up h (div_ceil_is_ceiling a b h)

smallest : {a b q : ℕ} → Ceiling a b q → SmallestNotBelow a b q
smallest {a} {b} {q} x =
    record {
      not_below = x.not_below;
      one_less_is_below = λ p l. let more = mul-le-mul_right {m = suc p} b l in omega (arith, x.within);
    }

pub rounded_up_smallest : (a b : ℕ) → 0 < b → SmallestNotBelow a b (rounded_up a b)
rounded_up_smallest a b h = smallest (rounded_up_is_ceiling a b h)

pub same_fraction : {a b c d q : ℕ} → 0 < b → 0 < d → a * d ≡ c * b → Ceiling a b q → Ceiling c d q
same_fraction {a} {b} {c} {d} {q} hb hd e x =
    record {
      not_below = le_of_mul-le-mul_left {k = b} (omega (arith, mul-le-mul_right d x.not_below)) hb;
      within = lt_of_mul-lt-mul_left b (omega (arith, mul-lt-mul_of_pos_right x.within hd));
    }

pub of_ceiling : {a b d p q : ℕ} → 0 < b → Ceiling a b p → Ceiling p d q → Ceiling a (b * d) q
of_ceiling {a} {b} {d} {p} {q} h x y =
    record {
      not_below = omega (arith, x.not_below, mul-le-mul_left b y.not_below);
      within = omega (arith, x.within, mul-le-mul_left b y.within);
    }

-- What divides evenly may be taken out first.
pub of_sum : {a b q : ℕ} (k : ℕ) → Ceiling a b q → Ceiling (k * b + a) b (k + q)
of_sum {a} {b} {q} k x = record { not_below = omega (arith, x.not_below); within = omega (arith, x.within) }

pub of_product : (a m b : ℕ) → 0 < b → a / b * m + div_ceil (a % b * m) b ≡ rounded_up (a * m) b
of_product a m b h =
    let rest : Ceiling (a % b * m) b (div_ceil (a % b * m) b) = div_ceil_is_ceiling (a % b * m) b h in
    let parts : a / b * m * b + a % b * m ≡ a * m = omega (arith, ap (λ (y : ℕ). m * y) (div-add-mod a b)) in
    is_rounded_up h (rw parts at (of_sum (a / b * m) rest))

-- Every divisor from a on gives the same: 0 for 0, and else 1.
pub larger_divisor : {a b d q : ℕ} → a ≤ b → b ≤ d → Ceiling a b q → Ceiling a d q
larger_divisor {q = zero} l m x = record { not_below = omega (arith, x.not_below); within = omega (arith, x.within) }
larger_divisor {q = suc zero} l m x = record { not_below = omega arith; within = omega (arith, x.within) }
larger_divisor {b = b} {q = suc (suc q)} l m x = absurd (omega (arith, x.within))

pub exceeds : {a b q : ℕ} (k : ℕ) → k * b < a → Ceiling a b q → k < q
exceeds {a} {b} {q} k l x = lt_of_mul-lt-mul_right b (omega (arith, x.not_below))
