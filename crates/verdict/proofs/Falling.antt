-- Where no factor is larger no sum of weighted factors is, so no verdict is worse; and the equilibrium factor is at
-- most 1.
use Prim.Native.Nat.{ℕ, suc, ◌-◌, ◌*◌, ◌≤◌, ◌<◌}
use native.Mathlib.Nat.{mul-le-mul_left, div-le_of_le-mul}
use native.Mathlib.Omega.{arith}
use Rattle.balance.specs.Balance.{raised}
use Rattle.numbers.specs.Sums.{sum_below}
use Rattle.numbers.proofs.Sums.{sum_mono}
use Rattle.verdict.specs.Verdict.{Assessment, low, high, verdict_at, verdict_order}
use Rattle.verdict.specs.WorkingLevels.{alpha_weight, alpha_sum, equilibrium}
use Rattle.verdict.specs.Promises.{NoLarger}
use Rattle.verdict.proofs.Verdicts.{no_worse_of_lower}

raised_falls : (i f lower : ℕ) → lower ≤ f → raised i lower ≤ raised i f
raised_falls i f lower h = omega arith

module _ (a b : Assessment) (falls : NoLarger a b) where
  -- Low and High are sums of weight times factor, or times a number that does not grow where the factor falls.
  sum_falls :
      (made : ℕ → ℕ → ℕ) → ((i f lower : ℕ) → lower ≤ f → made i lower ≤ made i f) →
      sum_below b.count (λ i. b.weight i * made i (b.factor i))
      ≤ sum_below a.count (λ i. a.weight i * made i (a.factor i))
  sum_falls made keeps =
      let each : (i : ℕ) → i < a.count → b.weight i * made i (b.factor i) ≤ a.weight i * made i (a.factor i) =
      λ i l. rw (falls.weight i l) (mul-le-mul_left (a.weight i) (keeps i (a.factor i) (b.factor i) (falls.factor i l)))
      in
      rw falls.count (sum_mono a.count each)

  pub no_worse : (C : ℕ) → verdict_order (verdict_at b C) ≤ verdict_order (verdict_at a C)
  no_worse C =
      rw falls.bound
      (no_worse_of_lower (low a C) (low b C) (high a C) (high b C) a.bound
      (mul-le-mul_left C (sum_falls (λ i f. f) (λ i f lower h. h)))
      (mul-le-mul_left C (sum_falls raised raised_falls)))

pub alpha_falls :
    (n : ℕ) (coefficient : ℕ → ℕ → ℕ) {f lower : ℕ → ℕ} → ((i : ℕ) → i < n → lower i ≤ f i) →
    alpha_sum n coefficient lower ≤ alpha_sum n coefficient f
alpha_falls n coefficient each =
    sum_mono (n - 1)
    (λ i l.
    let later : suc i < n = omega arith in
    mul-le-mul_left (coefficient (suc i) alpha_weight) (each (suc i) later))

pub equilibrium_of_less : (at_rate at_zero : ℕ) → at_rate ≤ at_zero → equilibrium at_rate at_zero ≤ 1000000
equilibrium_of_less at_rate at_zero h = div-le_of_le-mul at_zero (omega arith)
