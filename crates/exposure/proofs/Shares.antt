-- A group's share of the years is rounded to the nearest hundredth, so the shares of two groups add up to 100, or to
-- 101 where both went up.
use Prim.Native.Nat.{ℕ, suc, ◌+◌, ◌*◌, ◌≤◌, ◌<◌}
use native.Mathlib.Nat.{lt_of_mul-lt-mul_left}
use native.Mathlib.Omega.{arith}
use mathlib.Core.Path.{◌≡◌}
use Rattle.exposure.specs.Totals.{share}
use Rattle.exposure.specs.Promises.{SharesPromise}
use Rattle.rounding.proofs.Between.{Between, nearest_between}

-- Of two quotients that add up to 100 before they are rounded.
at_least_100 : {a c b m n : ℕ} → a + c ≡ 100 * b → Between a b m → Between c b n → 100 ≤ m + n
at_least_100 {a} {c} {b} {m} {n} whole x y =
    let l : 100 < suc (m + n) = lt_of_mul-lt-mul_left b (omega (arith, whole, x.below, y.below)) in omega arith

at_most_101 : {a c b m n : ℕ} → a + c ≡ 100 * b → 0 < b → Between a b m → Between c b n → m + n ≤ 101
at_most_101 {a} {c} {b} {m} {n} whole pos x y =
    let l : m + n < 102 = lt_of_mul-lt-mul_left b (omega (arith, whole, x.above, y.above)) in omega arith

pub shares_promise : (child adult : ℕ) → 0 < child + adult → SharesPromise child adult
shares_promise child adult pos =
    let c = nearest_between (100 * child) (child + adult) pos in
    let a = nearest_between (100 * adult) (child + adult) pos in
    record { at_least = at_least_100 (omega arith) c a; at_most = at_most_101 (omega arith) pos c a }

-- A part has at most the whole.
pub share_at_most : (ED Z : ℕ) → ED ≤ Z → 0 < Z → share ED Z ≤ 100
share_at_most ED Z part pos =
    let x = nearest_between (100 * ED) Z pos in
    let l : share ED Z < 101 = lt_of_mul-lt-mul_left Z (omega (arith, x.above)) in omega arith

-- What the code reads of a share.
pub ruleset parts = (share_at_most)
