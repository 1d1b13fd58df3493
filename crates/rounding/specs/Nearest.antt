-- A quotient rounded to the nearest whole, halves up.
use Rattle.std.specs.Prelude.{ℕ, suc, ◌+◌, ◌*◌, ◌/◌, ◌≤◌, ◌≡◌}

-- a / b and a half, rounded down.
unfoldable pub nearest : ℕ → ℕ → ℕ
nearest a b = (2 * a + b) / (2 * b)

-- What it is for n to be a / b rounded so: twice its distance from a / b, multiplied out, is at most one, and a half
-- goes up.
pub record NearestHalfUp (a b n : ℕ) : Type 0 where
  pub not_far_above : 2 * (n * b) ≤ 2 * a + b
  pub not_far_below : 2 * a ≤ 2 * (n * b) + b
  pub half_up : (m : ℕ) → 2 * a ≡ 2 * (m * b) + b → n ≡ suc m

-- What is promised, where b is not 0: it is that, and no other number is.
pub record NearestPromise (a b : ℕ) : Type 0 where
  pub is : NearestHalfUp a b (nearest a b)
  pub only : (n : ℕ) → NearestHalfUp a b n → n ≡ nearest a b
