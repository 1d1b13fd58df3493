-- Periods one after the other: one factor for each member,
-- none above the exact steady one at rates that no period goes below.
use Prim.Native.Nat.{ℕ, zero, suc, ◌*◌, ◌≤◌, ◌<◌}
use native.Mathlib.Omega.{arith}
use mathlib.Core.Path.{◌≡◌, refl, ap}
use mathlib.Core.List.{List}
use lib.ListN.{length, get_or, length-replicate}
use Rattle.numbers.specs.Sums.{sum_below}
use Rattle.balance.specs.Chain.{Chain}
use Rattle.balance.specs.Sound.{Sound}
use Rattle.balance.specs.Balance.{G}
use Rattle.balance.proofs.AnyChain.Equations.{ExactFactors}
use Rattle.minutes.specs.Minutes.{start, minutes, rate_of, minutes_of, after_periods}
use Rattle.minutes.proofs.Repeated.{start_below, minutes_below, minutes_added, minutes_length}

module _ (scale : ℕ) (chain : Chain) (rates : ℕ → ℕ → ℕ) (last : ℕ) (periods : List ℕ) where
  pub periods_length : (n : ℕ) → length (after_periods scale chain rates last periods n) ≡ suc last
  unfolding after_periods
  periods_length zero = ap suc (length-replicate last 0)
  periods_length (suc n) =
      minutes_length scale chain (rates (rate_of periods n)) last (minutes_of periods n) _ (periods_length n)

  -- Periods at one rate are their minutes together.
  pub periods_at_one_rate :
      (v n : ℕ) → ((p : ℕ) → p < n → rate_of periods p ≡ v) →
      after_periods scale chain rates last periods n
      ≡ minutes scale chain (rates v) last (sum_below n (minutes_of periods)) (start last)
  unfolding after_periods minutes sum_below
  periods_at_one_rate v zero same = refl
  periods_at_one_rate v (suc n) same =
      rw (same n (omega arith), periods_at_one_rate v n (λ p h. same p (omega arith)))
      (minutes_added scale chain (rates v) last (sum_below n (minutes_of periods)) (minutes_of periods n) (start last))

  module _ (pos : 0 < scale) (sound : Sound scale chain) (l : last < chain.count) where
    pub periods_below :
        {rate x : ℕ → ℕ} {P : ℕ} (i : ℕ) → i ≤ last → ExactFactors scale chain rate i P x →
        (n : ℕ) → ((p : ℕ) → p < n → (k : ℕ) → rate k ≤ rates (rate_of periods p) k) →
        (k : ℕ) → k ≤ i → P * get_or (after_periods scale chain rates last periods n) k 0 ≤ G * x k
    unfolding after_periods
    periods_below {rate} {x} {P} i within exact zero rise k le = start_below last P x exact.parent k
    periods_below i within exact (suc n) rise k le =
        let before = periods_below i within exact n (λ p h. rise p (omega arith)) in
        minutes_below pos sound last l (rise n (omega arith)) i within exact _ before (minutes_of periods n) k le
