-- What a pattern of 64 bits stands for. Below infinity's pattern the sign bit is clear and the exponent is under 2047,
-- so the value is the significand times 2^(exponent - 1), or times 1 at exponent 0, in units of 2^-1074.
use Prim.Native.Nat.{ℕ, zero, suc, ◌+◌, ◌-◌, ◌*◌, ◌/◌, ◌%◌, ◌^◌, ◌<◌, ◌≤◌}
use mathlib.Core.Path.{◌≡◌, refl, ap, sym, ◌∙◌}
use mathlib.Core.Bool.{Bool, true, false, cond, not}
use native.Mathlib.Omega.{arith}
use borrow.Author.Tests.{leb-true, leb-false, lt-leb, eq-eqb, ne_eqb}
use lib.Dec.{T, leb, eqb, eqb-suc-zero}
use lib.Ieee.{Float, nan, inf, binary64, nan_bits, odd, of_fields, of_bits}
use Rattle.std.proofs.lemmas.Float.{not_nan_f64_bits}
use lib.Ieee.Exact.{HasValue, odd_sign}
use Rattle.reading.specs.Reading.{unusable}
use Rattle.reading.specs.Private.Conversion.{significand_of}

abbrev pub infinity : ℕ
infinity = 0x7FF0_0000_0000_0000

odd_unusable : (d : ℕ) (s : Bool) (q k l : ℕ) → unusable (odd d s q k l) ≡ s
unfolding odd
odd_unusable d s zero k l = refl
odd_unusable d s (suc q) k l = refl

always : (b : Bool) → cond b true true ≡ true
always true = refl
always false = refl

infinite : (s b : Bool) → unusable (cond b (inf s) nan) ≡ true
infinite s true = refl
infinite s false = refl

either : (s b c : Bool) (x : Float) → unusable x ≡ s → unusable (cond b (cond c (inf s) nan) x) ≡ cond b true s
either s true c x e = infinite s c
either s false c x e = e

fields_unusable : (s : Bool) (x t : ℕ) → unusable (of_fields binary64 s x t) ≡ cond (eqb x 2047) true s
unfolding of_fields
fields_unusable s zero t = odd_unusable 53 s t 0 1074
fields_unusable s (suc x) t =
    either s (eqb (suc x) 2047) (eqb t 0) (odd 53 s (2 ^ 52 + t) x 1074) (odd_unusable 53 s (2 ^ 52 + t) x 1074)

bits_fields : (n : ℕ) → of_bits binary64 n ≡ of_fields binary64 (leb (2 ^ 63) n) (n % 2 ^ 63 / 2 ^ 52) (n % 2 ^ 52)
unfolding of_bits
bits_fields n = refl

unusable_is : (n : ℕ) {s b : Bool} → leb (2 ^ 63) n ≡ s → eqb (n % 2 ^ 63 / 2 ^ 52) 2047 ≡ b
    → unusable (of_bits binary64 n) ≡ cond b true s
unusable_is n sign ones =
    ap unusable (bits_fields n) ∙ fields_unusable (leb (2 ^ 63) n) (n % 2 ^ 63 / 2 ^ 52) (n % 2 ^ 52) ∙ rw (sign, ones)

pub from_infinity : (n : ℕ) → infinity ≤ n → unusable (of_bits binary64 n) ≡ true
from_infinity n h = go (leb (2 ^ 63) n) refl
  where
    go : (s : Bool) → leb (2 ^ 63) n ≡ s → unusable (of_bits binary64 n) ≡ true
    go true e = unusable_is n e refl ∙ always (eqb (n % 2 ^ 63 / 2 ^ 52) 2047)
    go false e = let below = leb-false (2 ^ 63) n e in unusable_is n e (eq-eqb (n % 2 ^ 63 / 2 ^ 52) 2047 (omega arith))

pub below_infinity : (n : ℕ) → n < infinity → unusable (of_bits binary64 n) ≡ false
below_infinity n h =
    unusable_is n (lt-leb (2 ^ 63) n (omega arith)) (ne_eqb (n % 2 ^ 63 / 2 ^ 52) 2047 (λ e. omega arith))

pub usable_below : (n : ℕ) → unusable (of_bits binary64 n) ≡ false → n < infinity
usable_below n u = go (leb infinity n) refl
  where
    go : (b : Bool) → leb infinity n ≡ b → n < infinity
    go true e = let full = from_infinity n (leb-true infinity n e) in cc
    go false e = leb-false infinity n e

-- The unusable patterns are those from infinity's on.
pub unusable_from_infinity : (n : ℕ) → leb infinity n ≡ unusable (of_bits binary64 n)
unusable_from_infinity n = go (leb infinity n) refl
  where
    go : (b : Bool) → leb infinity n ≡ b → leb infinity n ≡ unusable (of_bits binary64 n)
    go true e = e ∙ sym (from_infinity n (leb-true infinity n e))
    go false e = e ∙ sym (below_infinity n (leb-false infinity n e))

-- A usable pattern is no NaN's.
pub usable_number : (n : ℕ) → unusable (of_bits binary64 n) ≡ false → T (not (nan_bits binary64 n))
usable_number n u = not_nan_f64_bits n (let below = usable_below n u in omega arith)

fields_value : (x t : ℕ) → x < 2047
    → HasValue (of_fields binary64 false x t) false (cond (eqb x 0) t (2 ^ 52 + t) * 2 ^ (x - 1)) (2 ^ 1074)
unfolding of_fields
fields_value zero t h = odd_sign 53 false t 0 1074
fields_value (suc x) t h =
    let same : suc x - 1 ≡ x = omega arith in
    rw (eqb-suc-zero x, same, ne_eqb (suc x) 2047 (λ e. omega arith)) (odd_sign 53 false (2 ^ 52 + t) x 1074)

pub value : (n : ℕ) → n < infinity
    → HasValue (of_bits binary64 n) false (significand_of n * 2 ^ (n / 2 ^ 52 - 1)) (2 ^ 1074)
value n h =
    let whole : n % 2 ^ 63 / 2 ^ 52 ≡ n / 2 ^ 52 = omega arith in
    rw (bits_fields n, lt-leb (2 ^ 63) n (omega arith), whole) (fields_value (n / 2 ^ 52) (n % 2 ^ 52) (omega arith))
