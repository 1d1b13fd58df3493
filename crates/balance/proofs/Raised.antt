-- The exact factor lies at or below the reported one with 2i added, capped at G: it is less than 2i grains above, the
-- parent's is equal, and none is above 1.
use Prim.Native.Nat.{ℕ, zero, suc, ◌+◌, ◌*◌, ◌≤◌, min}
use native.Mathlib.Nat.{le_of_lt, min-eq_left, min-eq_right}
use native.Mathlib.Omega.{arith}
use mathlib.Core.Path.{◌≡◌, refl}
use mathlib.Core.Bool.{Bool, true, false}
use lib.Dec.{leb}
use borrow.Author.Tests.{leb-true, leb-false}
use Rattle.balance.specs.Chain.{Chain}
use Rattle.balance.specs.Balance.{G, raised}
use Rattle.balance.specs.Exact.{numerator, denominator}
use Rattle.balance.specs.Promises.{FactorPromise}

-- What is under two numbers is under the smaller.
module _ (y a b P : ℕ) (under-a : y ≤ a * P) (under-b : y ≤ b * P) where
  by_order : (t : Bool) → leb a b ≡ t → y ≤ min a b * P
  by_order true e = rw (min-eq_left (leb-true a b e)) under-a
  by_order false e = rw (min-eq_right (le_of_lt (leb-false a b e))) under-b

  under_min : y ≤ min a b * P
  under_min = by_order (leb a b) refl

module _ {scale : ℕ} {chain : Chain} {rate : ℕ → ℕ} where
  within_2i :
      (i : ℕ) {f : ℕ} → FactorPromise scale chain rate i f →
      numerator scale chain rate i * G ≤ (f + 2 * i) * denominator scale chain rate i
  within_2i zero promise = omega (arith, promise.parent_equal refl)
  within_2i (suc i) promise = le_of_lt (promise.less_than_2i_below (omega arith))

  pub exact_at_most_raised :
      (i : ℕ) {f : ℕ} → FactorPromise scale chain rate i f →
      numerator scale chain rate i * G ≤ raised i f * denominator scale chain rate i
  exact_at_most_raised i {f} promise =
      under_min (numerator scale chain rate i * G) (f + 2 * i) G (denominator scale chain rate i)
      (within_2i i promise) (omega (arith, promise.exact_at_most_one))
