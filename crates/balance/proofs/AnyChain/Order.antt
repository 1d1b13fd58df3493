-- A balance that removes no less than an exact one stays below it, each over its own whole, once its parent is.
-- Along the chain: the feeds come from earlier members, so the inflow is below, and the removal keeps it there.
use Prim.Native.Nat.{ℕ, suc, ◌*◌, ◌≤◌, ◌<◌}
use native.Mathlib.Nat.{le_of_suc-le-suc, mul-le-mul_right}
use native.Mathlib.Omega.{arith}
use Rattle.balance.specs.Chain.{Chain}
use Rattle.balance.specs.Sound.{Sound}
use Rattle.balance.specs.Balance.{K, removal}
use Rattle.balance.proofs.AnyChain.Inflow.{inflow_of, inflow_order}
use Rattle.balance.proofs.AnyChain.Equations.{ExactFactors}
use Rattle.balance.proofs.AnyChain.Rounding.{order_passes}
use Rattle.balance.proofs.AnyChain.AlongChain.{along_chain}

module _ (chain : Chain) {rate higher : ℕ → ℕ} (rises : (k : ℕ) → rate k ≤ higher k) where
  pub removal_rises : (k : ℕ) → removal chain rate k ≤ removal chain higher k
  removal_rises k = omega (arith, mul-le-mul_right (chain.half_life k) (rises k))

  module _ {scale : ℕ} (pos : 0 < scale) (sound : Sound scale chain) (i : ℕ) (l : i < chain.count) where
    pub stays_below :
        (p g P : ℕ) (x y : ℕ → ℕ)
        → ExactFactors scale chain rate i P x
        → p * y 0 ≤ g * x 0
        → ((k : ℕ) → k < i → scale * removal chain higher (suc k) * y (suc k) ≤ K * inflow_of y (chain.feeds (suc k)))
        → (k : ℕ)
        → k ≤ i
        → p * y k ≤ g * x k
    stays_below p g P x y exact parent lower = along_chain (λ k. p * y k ≤ g * x k) i parent passes
      where
        passes : (k : ℕ) → k < i → ((j : ℕ) → j ≤ k → p * y j ≤ g * x j) → p * y (suc k) ≤ g * x (suc k)
        passes k h earlier =
            let below = sound.from_lower (suc k) (omega arith) in
            let inflows =
            inflow_order p g y x (suc k) (chain.feeds (suc k)) below (λ j m. earlier j (le_of_suc-le-suc m)) in
            order_passes scale _ _ K p g _ _ _ _ pos (omega arith) (removal_rises (suc k)) (exact.later k h)
            (lower k h) inflows
