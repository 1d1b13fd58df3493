-- At higher rates no factor is larger, exact or reported.
-- The exact ones stay below, since the removal is no smaller; of the reported ones too no inflow is larger, and a
-- quotient rounded down keeps the order.
use Prim.Native.Nat.{ℕ, suc, ◌*◌, ◌≤◌, ◌<◌}
use native.Mathlib.Nat.{le_of_eq}
use native.Mathlib.Omega.{arith}
use mathlib.Core.Path.{ap}
use Rattle.balance.specs.Chain.{Chain}
use Rattle.balance.specs.Sound.{Sound}
use Rattle.balance.specs.Balance.{K}
use Rattle.balance.proofs.AnyChain.Inflow.{inflow_order}
use Rattle.balance.proofs.AnyChain.Equations.{ReportedFactors, ExactFactors}
use Rattle.balance.proofs.AnyChain.Rounding.{rounded_mono}
use Rattle.balance.proofs.AnyChain.AlongChain.{along_chain}
use Rattle.balance.proofs.AnyChain.Order.{removal_rises, stays_below}

module _ {scale : ℕ} {chain : Chain} {rate higher : ℕ → ℕ} (pos : 0 < scale) (sound : Sound scale chain)
    (rises : (k : ℕ) → rate k ≤ higher k) where
  pub exact_falls_along :
      {P Q : ℕ} {x lower : ℕ → ℕ} (i : ℕ)
      → i < chain.count
      → ExactFactors scale chain rate i P x
      → ExactFactors scale chain higher i Q lower
      → (k : ℕ)
      → k ≤ i
      → P * lower k ≤ Q * x k
  exact_falls_along {P} {Q} {x} {lower} i l exact exact_higher =
      let parent : P * lower 0 ≤ Q * x 0 =
      omega (arith, ap (λ t. Q * t) exact.parent, ap (λ t. P * t) exact_higher.parent) in
      stays_below chain rises pos sound i l P Q P x lower exact parent (λ k h. le_of_eq (exact_higher.later k h))

  pub reported_falls_along :
      {r lower : ℕ → ℕ} (i : ℕ)
      → i < chain.count
      → ReportedFactors scale chain rate i r
      → ReportedFactors scale chain higher i lower
      → (k : ℕ)
      → k ≤ i
      → lower k ≤ r k
  reported_falls_along {r} {lower} i l reported reported_higher =
      along_chain (λ k. lower k ≤ r k) i (omega (arith, reported.parent, reported_higher.parent)) passes
    where
      passes : (k : ℕ) → k < i → ((j : ℕ) → j ≤ k → lower j ≤ r j) → lower (suc k) ≤ r (suc k)
      passes k h earlier =
          let below = sound.from_lower (suc k) (omega arith) in
          let inflows =
          inflow_order 1 1 lower r (suc k) (chain.feeds (suc k)) below
          (λ j m. omega (arith, earlier j (omega arith))) in
          rw (reported.later k h, reported_higher.later k h)
          (rounded_mono scale _ _ K _ _ pos (omega arith) (removal_rises chain rises (suc k)) (omega arith))
