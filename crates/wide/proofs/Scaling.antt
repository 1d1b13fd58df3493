-- A dividend of two words and its divisor, both times 2^s: the quotient stays, and the high word takes in the bits
-- that leave the low word.
use Rattle.std.proofs.Common.{◌≡◌, ℕ, ◌+◌, ◌-◌, ◌*◌, ◌/◌, ◌%◌, ◌^◌, ◌<◌, ◌≤◌, sym, ap, ◌∙◌, lt_trans, mul-le-mul_right}
use Rattle.std.proofs.Common.{mod-eq_of_lt, div-lt_iff_lt-mul, lt_of_mul-lt-mul_right, mul-lt-mul_of_pos_right}
use Rattle.std.proofs.Common.{div-add-mod', sub-add_cancel, arith, pow_pos, pow-add}
use native.Mathlib.Nat.{div-div-eq-div-mul, mul-div-mul_right}

-- 2^64 as the product of the scale and of what the low word is divided by to find the bits that leave it
split : (s : ℕ) → s < 64 → 2 * 2 ^ (63 - s) * 2 ^ s ≡ 2 ^ 64
split s h =
    let e : 2 ^ (63 - s) * 2 ^ s ≡ 2 ^ 63 =
    sym (pow-add 2 (63 - s) s) ∙ ap (λ (x : ℕ). 2 ^ x) (sub-add_cancel {n = 63} {m = s} (omega arith)) in
    omega arith

module _ (high low d p c : ℕ) (p-pos : 0 < p) (whole : 2 * c * p ≡ 2 ^ 64)
    (below : high < d) (word : low < 2 ^ 64) (fits : d * p < 2 ^ 64) where
  high_kept : high * p % 2 ^ 64 ≡ high * p
  high_kept = mod-eq_of_lt (lt_trans (mul-lt-mul_of_pos_right {k = p} below p-pos) fits)

  c_pos : 0 < 2 * c
  c_pos = lt_of_mul-lt-mul_right p {m = 0} {n = 2 * c} (omega arith)

  leaving : low / 2 / c ≡ low / (2 * c)
  leaving = div-div-eq-div-mul low 2 c

  leaving_below : low / (2 * c) < p
  leaving_below = (div-lt_iff_lt-mul {k = 2 * c} {x = low} {y = p} c_pos).1 (omega arith)

  low_scaled : low / (2 * c) * 2 ^ 64 + low * p % 2 ^ 64 ≡ low * p
  low_scaled =
      let e : low * p / 2 ^ 64 ≡ low / (2 * c) =
      ap (λ (x : ℕ). low * p / x) (sym whole) ∙ mul-div-mul_right {m = p} low (2 * c) p-pos in
      ap (λ (x : ℕ). x * 2 ^ 64 + low * p % 2 ^ 64) (sym e) ∙ div-add-mod' (low * p) (2 ^ 64)

  next_scale : (high + 1) * p ≤ d * p
  next_scale = mul-le-mul_right p (omega arith)

  pub top_below : high * p % 2 ^ 64 + low / 2 / c < d * p
  top_below = rw (high_kept, leaving) (omega (arith, leaving_below, next_scale))

  pub dividend : (high * p % 2 ^ 64 + low / 2 / c) * 2 ^ 64 + low * p % 2 ^ 64 ≡ (high * 2 ^ 64 + low) * p
  dividend = rw (high_kept, leaving) (omega (arith, low_scaled))

-- What the code divides: `top` over `bottom` by the scaled divisor.
pub record Scaled (high low d s : ℕ) : Type 0 where
  pub normal : 2 ^ 63 ≤ d * 2 ^ s % 2 ^ 64
  pub below : high * 2 ^ s % 2 ^ 64 + low / 2 / 2 ^ (63 - s) < d * 2 ^ s % 2 ^ 64
  pub quotient : ((high * 2 ^ s % 2 ^ 64 + low / 2 / 2 ^ (63 - s)) * 2 ^ 64 + low * 2 ^ s % 2 ^ 64)
      / (d * 2 ^ s % 2 ^ 64) ≡ (high * 2 ^ 64 + low) / d

-- the third premise is what `top_shift` ensures
pub scaled : {high low d s : ℕ} → high < d → low < 2 ^ 64
    → (s < 64) × (2 ^ 63 ≤ d * 2 ^ s) × (d * 2 ^ s < 2 ^ 64) → Scaled high low d s
scaled {high} {low} {d} {s} below word (short, normal, fits) =
    let kept : d * 2 ^ s % 2 ^ 64 ≡ d * 2 ^ s = mod-eq_of_lt fits in
    record {
      normal = rw kept normal;
      below = rw kept (top_below high low d (2 ^ s) (2 ^ (63 - s)) (pow_pos s) (split s short) below word fits);
      quotient = rw (kept, dividend high low d (2 ^ s) (2 ^ (63 - s)) (pow_pos s) (split s short) below word fits)
          (mul-div-mul_right (high * 2 ^ 64 + low) d (pow_pos s));
    }
