-- A minute as equations over a number for each member, and two laws of it along the chain:
-- what begins higher ends higher, and what begins below the exact steady factors stays
-- below them, also where the minute is at higher rates than theirs.
use Prim.Native.Nat.{ℕ, suc, ◌*◌, ◌≤◌, ◌<◌}
use native.Mathlib.Nat.{le_of_suc-le-suc, mul-le-mul_right}
use native.Mathlib.Omega.{arith}
use mathlib.Core.Path.{◌≡◌, ap}
use Rattle.balance.specs.Chain.{Chain}
use Rattle.balance.specs.Sound.{Sound}
use Rattle.balance.specs.Balance.{G, K}
use Rattle.balance.proofs.AnyChain.Inflow.{inflow_of, inflow_order}
use Rattle.balance.proofs.AnyChain.Equations.{ExactFactors}
use Rattle.balance.proofs.AnyChain.AlongChain.{along_chain}
use Rattle.minutes.specs.Minutes.{new_factor}
use Rattle.minutes.proofs.Stepping.{step_rises, step_below}

-- Of members 0 to i.
pub record Aged (scale : ℕ) (chain : Chain) (rate : ℕ → ℕ) (i : ℕ) (old new : ℕ → ℕ) : Type 0 where
  pub parent : new 0 ≡ G
  pub later : (k : ℕ) → k < i →
      new (suc k) ≡ new_factor scale chain rate (suc k) (old (suc k)) (inflow_of new (chain.feeds (suc k)))

module _ {scale : ℕ} {chain : Chain} (pos : 0 < scale) (sound : Sound scale chain) (i : ℕ) (l : i < chain.count) where
  pub aged_rises :
      {rate old new older newer : ℕ → ℕ}
      → Aged scale chain rate i old new
      → Aged scale chain rate i older newer
      → ((k : ℕ) → k ≤ i → old k ≤ older k)
      → (k : ℕ)
      → k ≤ i
      → new k ≤ newer k
  aged_rises {rate} {old} {new} {older} {newer} aged aged_more begins =
      along_chain (λ k. new k ≤ newer k) i (omega (arith, aged.parent, aged_more.parent)) passes
    where
      passes : (k : ℕ) → k < i → ((j : ℕ) → j ≤ k → new j ≤ newer j) → new (suc k) ≤ newer (suc k)
      passes k h earlier =
          let below = sound.from_lower (suc k) (omega arith) in
          let inflows =
          inflow_order 1 1 new newer (suc k) (chain.feeds (suc k)) below
          (λ j m. omega (arith, earlier j (omega arith))) in
          rw (aged.later k h, aged_more.later k h)
          (step_rises scale _ K _ (old (suc k)) (older (suc k)) _ _ pos (omega arith) (begins (suc k) h) (omega arith))

  pub aged_stays_below :
      {rate higher old new x : ℕ → ℕ} {P : ℕ}
      → ((k : ℕ) → rate k ≤ higher k)
      → ExactFactors scale chain rate i P x
      → Aged scale chain higher i old new
      → ((k : ℕ) → k ≤ i → P * old k ≤ G * x k)
      → (k : ℕ)
      → k ≤ i
      → P * new k ≤ G * x k
  aged_stays_below {rate} {higher} {old} {new} {x} {P} rises exact aged begins =
      along_chain
      (λ k. P * new k ≤ G * x k)
      i
      (omega (arith, ap (λ t. P * t) aged.parent, ap (λ t. G * t) exact.parent))
      passes
    where
      passes : (k : ℕ) → k < i → ((j : ℕ) → j ≤ k → P * new j ≤ G * x j) → P * new (suc k) ≤ G * x (suc k)
      passes k h earlier =
          let below = sound.from_lower (suc k) (omega arith) in
          let inflows =
          inflow_order P G new x (suc k) (chain.feeds (suc k)) below (λ j m. earlier j (le_of_suc-le-suc m)) in
          let T = chain.half_life (suc k) in
          let removed = mul-le-mul_right T (rises (suc k)) in
          rw (aged.later k h)
          (step_below scale _ _ _ K P G (x (suc k)) (old (suc k)) _ _ pos (omega arith) (omega arith) (exact.later k h)
          (begins (suc k) h) inflows)
