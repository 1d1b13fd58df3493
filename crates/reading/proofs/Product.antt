-- The code's conversion against the exact value. A float's value is a fraction, so the ceiling of its product with a
-- multiplier is the ceiling over any equal fraction; the code takes the one over a power of two, in two steps.
use Prim.Native.Nat.{ℕ, ◌+◌, ◌-◌, ◌*◌, ◌^◌, ◌<◌, ◌≤◌, min}
use mathlib.Core.Path.{◌≡◌, refl, ap, ◌∙◌}
use mathlib.Core.Bool.{Bool, true, false}
use native.Mathlib.Nat.{lt_of_lt_of_le, mul-le-mul, mul-pos}
use native.Mathlib.Omega.{arith}
use borrow.Author.Tests.{leb-true, leb-false, ne_eqb, lt-ltb}
use lib.Dec.{lit<, leb}
use lib.Pow.{pow_pos, pow_mono, pow-add}
use lib.Ieee.{Float, nan, inf, fin, up, down, binary64, of_bits}
use lib.Ieee.Exact.{HasValue}
use lib.Ieee.Fits.{down_pos}
use Rattle.std.specs.Prelude.{Err}
use Rattle.std.specs.Int.{div_ceil}
use Rattle.reading.specs.declared.error.ReadingError.{ReadingError}
use Rattle.reading.specs.Reading.{unusable, rounded_up, max_concentration}
use Rattle.reading.specs.Private.Conversion.{exponent_of, significand_of, too_large_exponent, least_places, most_places}
use Rattle.reading.specs.Private.Conversion.{other_places, converted, converted_answer}
use Rattle.reading.proofs.Ceiling.{Ceiling, rounded_up_is_ceiling, div_ceil_is_ceiling}
use Rattle.reading.proofs.Ceiling.{unique, same_fraction, of_ceiling, larger_divisor, exceeds}
use Rattle.reading.proofs.Pattern.{infinity, value, usable_below}

value_ceiling : (x : Float) (a c m : ℕ) → 0 < c → HasValue x false a c → Ceiling (a * m) c (converted x m)
unfolding converted
value_ceiling nan a c m h v = absurd v
value_ceiling (inf s) a c m h v = absurd v
value_ceiling (fin s d e) a c m h v =
    same_fraction (down_pos e) h
    (omega (arith, ap (λ (y : ℕ). m * y) v.1))
    (rounded_up_is_ceiling (d * up e * m) (down e) (down_pos e))

-- The ceiling of a pattern's value times m, over 2^1074.
pattern_ceiling : (n m : ℕ) → n < infinity
    → Ceiling (significand_of n * 2 ^ (exponent_of n - 1) * m) (2 ^ 1074) (converted (of_bits binary64 n) m)
pattern_ceiling n m h =
    value_ceiling (of_bits binary64 n) (significand_of n * 2 ^ (exponent_of n - 1)) (2 ^ 1074) m
    (pow_pos 1074)
    (value n h)

too_large : (n m : ℕ) → n < infinity → 0 < m → too_large_exponent ≤ exponent_of n
    → max_concentration < converted (of_bits binary64 n) m
too_large n m h hm l =
    let leading : 2 ^ 52 ≤ significand_of n = rw (ne_eqb (exponent_of n) 0 (λ e. omega arith)) (omega arith) in
    let power : 2 ^ 1054 ≤ 2 ^ (exponent_of n - 1) = pow_mono {i = 1054} (omega arith) in
    exceeds max_concentration
    (lt_of_lt_of_le {m = 2 ^ 52 * 2 ^ 1054 * 1} (lit< tt) (mul-le-mul (mul-le-mul leading power) hm))
    (pattern_ceiling n m h)

-- A usable pattern of such an exponent is answered as too large.
pub large : (n m : ℕ) → unusable (of_bits binary64 n) ≡ false → 0 < m → too_large_exponent ≤ exponent_of n
    → Err ReadingError.TooLarge ≡ converted_answer (of_bits binary64 n) m
large n m u h l =
    rw (u, lt-ltb max_concentration (converted (of_bits binary64 n) m) (too_large n m (usable_below n u) h l))

-- Places beyond the most change nothing.
more_places : (p q k r : ℕ) → p < 2 ^ most_places → k ≡ min most_places r → Ceiling p (2 ^ k) q → Ceiling p (2 ^ r) q
more_places p q k r small e x = go (leb r most_places) refl
  where
    go : (b : Bool) → leb r most_places ≡ b → Ceiling p (2 ^ r) q
    go true t = let same : k ≡ r = omega (arith, leb-true r most_places t) in rw same at x
    go false t =
        let same : k ≡ most_places = omega (arith, leb-false r most_places t) in
        larger_divisor {b = 2 ^ k} (rw same (omega arith)) (pow_mono (omega (arith, leb-false r most_places t))) x

regroup : (d m s t p : ℕ) → p ≡ s * t → d * m * p ≡ d * s * m * t
regroup d m s t p e = omega (arith, ap (λ (y : ℕ). d * m * y) e)

-- Digits d, p over 21 places, k other places with their power w, and the quotient q: as the code goes.
pub product_is : (n m : ℕ) {d p k w q : ℕ} → exponent_of n < too_large_exponent
    → d ≡ significand_of n → p ≡ rounded_up (d * m) (2 ^ least_places) → p < 2 ^ most_places
    → k ≡ other_places n → w ≡ 2 ^ k → q ≡ div_ceil p w → q ≡ converted (of_bits binary64 n) m
product_is n m {d} {p} {k} {w} {q} h ed ep small ek ew eq =
    let s = exponent_of n - 1 in
    let r = too_large_exponent - 2 - s in
    let first : Ceiling (significand_of n * m) (2 ^ least_places) p =
    rw (ep, ed) (rounded_up_is_ceiling _ (2 ^ least_places) (pow_pos least_places))
    in
    let second : Ceiling p (2 ^ k) q = rw (eq, ew) (div_ceil_is_ceiling p (2 ^ k) (pow_pos k)) in
    let places : 1074 ≡ s + (least_places + r) = omega arith in
    let powers : 2 ^ 1074 ≡ 2 ^ s * (2 ^ least_places * 2 ^ r) =
    ap (λ (y : ℕ). 2 ^ y) places ∙ pow-add 2 s (least_places + r) ∙ ap (λ (y : ℕ). 2 ^ s * y) (pow-add 2 least_places r)
    in
    let both : Ceiling (significand_of n * m) (2 ^ least_places * 2 ^ r) q =
    of_ceiling (pow_pos least_places) first (more_places p q k r small ek second)
    in
    let same = regroup (significand_of n) m (2 ^ s) (2 ^ least_places * 2 ^ r) (2 ^ 1074) powers in
    unique (pow_pos 1074)
    (same_fraction (mul-pos (pow_pos least_places) (pow_pos r)) (pow_pos 1074) same both)
    (pattern_ceiling n m (omega arith))
