-- Over a later member's denominator each numerator is the same fraction as over the member's own.
-- Each step along the chain multiplies the earlier numerators and the denominator by one number.
use Prim.Native.Nat.{ℕ, suc, ◌*◌, ◌≤◌}
use native.Mathlib.Decide.{le_ind}
use native.Mathlib.Omega.{arith}
use mathlib.Core.Path.{◌≡◌, refl, ap}
use lib.ListN.{get_or}
use Rattle.balance.specs.Chain.{Chain}
use Rattle.balance.specs.Exact.{numerators, numerator, denominator}
use Rattle.balance.proofs.AnyChain.Numerators.{numerators_earlier}

multiplied : (x y c d n P : ℕ) → y ≡ c * x → x * d ≡ n * P → y * d ≡ n * (P * c)
multiplied x y c d n P grown over = omega (arith, ap (λ t. t * d) grown, ap (λ t. c * t) over)

module _ (scale : ℕ) (chain : Chain) (rate : ℕ → ℕ) where
  Over : ℕ → ℕ → Type 0
  Over k i =
      get_or (numerators scale chain rate i) k 0 * denominator scale chain rate k
      ≡ numerator scale chain rate k * denominator scale chain rate i

  next : (i k : ℕ) → k ≤ i → Over k i → Over k (suc i)
  unfolding Over denominator
  next i k le over = multiplied _ _ _ _ _ _ (numerators_earlier scale chain rate i k le) over

  pub one_denominator :
      (i k : ℕ)
      → k ≤ i
      → get_or (numerators scale chain rate i) k 0 * denominator scale chain rate k
      ≡ numerator scale chain rate k * denominator scale chain rate i
  unfolding Over
  one_denominator i k le = le_ind (λ m. Over k m) refl (λ m l over. next m k l over) i le
