-- The capped quotient is one number: where b is not 0, the smaller of the cap and a / b.
-- Each of two largest factors is at most the other.
use Rattle.std.proofs.Common.{◌≡◌, ℕ, ◌/◌, ◌<◌, min, le_trans, mul-le-mul_right}
use Rattle.std.proofs.Common.{le_antisymm, le-div_iff_mul-le, div-mul-le_self}
use native.Mathlib.Nat.{min-le_left, min-le_right, le-min}
use Rattle.wide.specs.Quotient.{LargestQuotient}

pub unique : {a b cap p q : ℕ} → LargestQuotient a b cap p → LargestQuotient a b cap q → p ≡ q
unique {a} {b} {cap} {p} {q} s t = le_antisymm (t.largest p s.within s.fits) (s.largest q t.within t.fits)

pub min_is : (a b cap : ℕ) → 0 < b → LargestQuotient a b cap (min cap (a / b))
min_is a b cap pos = record {
  within = min-le_left cap (a / b);
  fits = le_trans (mul-le-mul_right b (min-le_right cap (a / b))) (div-mul-le_self a b);
  largest = λ k c f. le-min c ((le-div_iff_mul-le pos).1 f);
}

pub least_of_both : {a b cap q : ℕ} → 0 < b → LargestQuotient a b cap q → q ≡ min cap (a / b)
least_of_both {a} {b} {cap} pos s = unique s (min_is a b cap pos)
