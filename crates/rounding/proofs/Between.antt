-- A quotient rounded to the nearest whole, halves up, is the one n with 2·n·b ≤ 2·a + b < 2·(n + 1)·b: less than a half
-- below a / b, and at most a half above it.
use Prim.Native.Nat.{ℕ, suc, ◌+◌, ◌-◌, ◌*◌, ◌/◌, ◌%◌, ◌≤◌, ◌<◌}
use native.Mathlib.Nat.{le_antisymm, eq-or-lt_of_le, lt_of_mul-lt-mul_left, div-add-mod, mod-lt, div-zero}
use native.Mathlib.Omega.{arith}
use mathlib.Core.Path.{◌≡◌, ap, sym, ◌∙◌}
use mathlib.Core.Logic.{◌⊎◌, inl, inr}
use Rattle.rounding.specs.Nearest.{nearest, NearestHalfUp, NearestPromise}

pub record Between (a b n : ℕ) : Type 0 where
  pub above : 2 * (n * b) ≤ 2 * a + b
  pub below : 2 * a < 2 * (n * b) + b

-- What every quotient rounded down is.
record Quotient (x y q : ℕ) : Type 0 where
  pub fits : q * y ≤ x
  pub next_is_more : x < q * y + y

quotient : (x y : ℕ) → 0 < y → Quotient x y (x / y)
quotient x y pos =
    let parts = div-add-mod x y in
    let rest = mod-lt x pos in
    record { fits = omega arith; next_is_more = omega arith }

pub nearest_between : (a b : ℕ) → 0 < b → Between a b (nearest a b)
unfolding nearest
nearest_between a b pos =
    let q : Quotient _ _ (nearest a b) = quotient _ _ (omega arith) in
    record { above = omega (arith, q.fits); below = omega (arith, q.next_is_more) }

at_most_another : {a b m n : ℕ} → Between a b m → Between a b n → m ≤ n
at_most_another {a} {b} {m} {n} x y =
    let l : m < suc n = lt_of_mul-lt-mul_left b (omega (arith, x.above, y.below)) in omega arith

pub unique : {a b m n : ℕ} → Between a b m → Between a b n → m ≡ n
unique x y = le_antisymm (at_most_another x y) (at_most_another y x)

-- A larger number has no smaller quotient.
pub nearest_rises : {a c : ℕ} (b : ℕ) → 0 < b → a ≤ c → nearest a b ≤ nearest c b
nearest_rises {a} {c} b pos more =
    let l : nearest a b < suc (nearest c b) =
    lt_of_mul-lt-mul_left b (omega (arith, (nearest_between a b pos).above, (nearest_between c b pos).below))
    in
    omega arith

-- A half is between the two wholes next to it, and the upper of them is the one.
half_up : {a b n : ℕ} → 0 < b → Between a b n → (m : ℕ) → 2 * a ≡ 2 * (m * b) + b → n ≡ suc m
half_up {a} {b} pos x m half = unique x (record { above = omega arith; below = omega arith })

pub between_is : {a b n : ℕ} → 0 < b → Between a b n → NearestHalfUp a b n
between_is pos x = record { not_far_above = x.above; not_far_below = omega (arith, x.below); half_up = half_up pos x }

-- It is less than a half below: at a half it would have to be one more than itself.
less_than_half :
    {a b n : ℕ} → NearestHalfUp a b n → (2 * a ≡ 2 * (n * b) + b) ⊎ (2 * a < 2 * (n * b) + b) → 2 * a < 2 * (n * b) + b
less_than_half {a} {b} {n} x (inl half) = absurd (omega (arith, x.half_up n half))
less_than_half x (inr less) = less

is_between : {a b n : ℕ} → NearestHalfUp a b n → Between a b n
is_between x = record { above = x.not_far_above; below = less_than_half x (eq-or-lt_of_le x.not_far_below) }

pub nearest_only : (a b n : ℕ) → 0 < b → NearestHalfUp a b n → n ≡ nearest a b
nearest_only a b n pos x = unique (is_between x) (nearest_between a b pos)

pub nearest_promise : (a b : ℕ) → 0 < b → NearestPromise a b
nearest_promise a b pos =
    record { is = between_is pos (nearest_between a b pos); only = λ n x. nearest_only a b n pos x }

pub nearest_by_none : (a : ℕ) {b : ℕ} → b ≡ 0 → 0 ≡ nearest a b
unfolding nearest
nearest_by_none a none = rw none (sym (div-zero (2 * a + 0)))

-- By the rest of the division: the quotient itself where the rest is less than a half of b, and otherwise one more.
module _ (a b : ℕ) (pos : 0 < b) where
  pub rest_below_half : a % b < b - a % b → a / b ≡ nearest a b
  rest_below_half less =
      let parts = div-add-mod a b in
      let down : Between a b (a / b) = record { above = omega arith; below = omega arith } in
      unique down (nearest_between a b pos)

  pub rest_from_half : b - a % b ≤ a % b → a / b + 1 ≡ nearest a b
  rest_from_half more =
      let parts = div-add-mod a b in
      let rest = mod-lt a pos in
      let up : Between a b (a / b + 1) = record { above = omega arith; below = omega arith } in
      unique up (nearest_between a b pos)

-- What divides evenly is not rounded.
pub unrounded : (n : ℕ) {a b : ℕ} → 0 < b → n * b ≡ a → nearest a b * b ≡ a
unrounded n {a} {b} pos even =
    let whole : Between a b n = record { above = omega arith; below = omega arith } in
    ap (λ q. q * b) (unique (nearest_between a b pos) whole) ∙ even

-- What the code reads of the division.
pub ruleset by_rest = (nearest_by_none, rest_below_half, rest_from_half)
