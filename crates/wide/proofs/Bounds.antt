-- Six limbs hold a number below 2^192. Each limb is below 2^32, so a number below the top of the limbs above it
-- becomes one below 2^32 times that.
use Rattle.std.proofs.Common.{◌≡◌, ℕ, ◌+◌, ◌*◌, ◌%◌, ◌^◌, ◌<◌, List, sym, ◌∙◌, subst, mod-eq_of_lt, arith, lit<}
use native.Mathlib.Nat.{add-mul-mod_self_left}
use Rattle.wide.specs.Value.{modulus}
use Rattle.wide.specs.Limbs.{SixLimbs, number, listed_same}

bound : {x v top : ℕ} → x < 2 ^ 32 → v < top → x + 2 ^ 32 * v < 2 ^ 32 * top
bound h l = omega arith

pub number_below : (a : List ℕ) → SixLimbs a → number a < modulus
number_below a s =
    subst (λ (l : List ℕ). number l < modulus) (listed_same a s.six)
    (bound (s.each 5).fits (bound (s.each 4).fits (bound (s.each 3).fits
    (bound (s.each 2).fits (bound (s.each 1).fits (bound (s.each 0).fits (lit< {m = 0} {n = 1} tt)))))))

-- what is below m and equal to a number but for multiples of m is its remainder
pub remainder_is : {r total m : ℕ} (k : ℕ) → total ≡ r + m * k → r < m → r ≡ total % m
remainder_is {r} {total} {m} k e h = rw e (sym (add-mul-mod_self_left r m k ∙ mod-eq_of_lt h))
