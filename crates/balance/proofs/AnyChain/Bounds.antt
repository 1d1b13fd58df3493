-- The exact factors are at most 1, the reported ones are never above them and less than 2i grains below.
-- The first and the last are Flow, of the numerators and of what the reported factors lack;
-- the second is that rounding down only removes more.
use Prim.Native.Nat.{ℕ, suc, ◌+◌, ◌-◌, ◌*◌, ◌≤◌, ◌<◌}
use native.Mathlib.Nat.{le_refl, le_of_eq, mul-pos, le_of_mul-le-mul_left, lt_of_mul-lt-mul_left, sub-add_cancel}
use native.Mathlib.Omega.{arith}
use mathlib.Core.Path.{◌≡◌, ap}
use Rattle.balance.specs.Chain.{Chain}
use Rattle.balance.specs.Sound.{Sound}
use Rattle.balance.specs.Balance.{G, K, removal}
use Rattle.balance.proofs.AnyChain.Inflow.{inflow_of, inflow_le}
use Rattle.balance.proofs.AnyChain.Flow.{AtMostInflow, inflow_bound, member_bound}
use Rattle.balance.proofs.AnyChain.Equations.{ReportedFactors, ExactFactors}
use Rattle.balance.proofs.AnyChain.Rounding.{rounded_below, rounded_little, at_most_inflow, loss_passes}
use Rattle.balance.proofs.AnyChain.Order.{stays_below}

-- A loss of less than two grains for each of i members.
losses_add :
    (scale i P β a first : ℕ)
    → first ≡ 0
    → β + 1 ≡ 2 * (scale * P)
    → 0 < i
    → scale * a ≤ scale * first + i * β
    → a < 2 * i * P
losses_add scale i P β a first none less later flow =
    lt_of_mul-lt-mul_left scale (omega (arith, ap (λ t. scale * t) none, ap (λ t. i * t) less))

-- A member keeps K parts of its removal's of its inflow, so Flow holds of it without loss.
kept :
    {scale : ℕ} {chain : Chain} (rate : ℕ → ℕ) (sound : Sound scale chain) (i : ℕ) (a : ℕ → ℕ)
    → ((k : ℕ) → k < i → scale * removal chain rate (suc k) * a (suc k) ≤ K * inflow_of a (chain.feeds (suc k)))
    → AtMostInflow sound a 0 i
kept {scale} {chain} rate sound i a each k h =
    let most =
    at_most_inflow scale (removal chain rate (suc k)) K _ (a (suc k)) (omega arith) (omega arith) (each k h) in
    omega arith

module _ {scale : ℕ} {chain : Chain} {rate : ℕ → ℕ} (pos : 0 < scale) (sound : Sound scale chain) (i : ℕ)
    (l : i < chain.count) where
  module _ {r : ℕ → ℕ} (reported : ReportedFactors scale chain rate i r) where
    rounded_down : (k : ℕ) → k < i →
        scale * removal chain rate (suc k) * r (suc k) ≤ K * inflow_of r (chain.feeds (suc k))
    rounded_down k h = rw (reported.later k h) (rounded_below scale _ K _)

    little : (k : ℕ) → k < i → K * inflow_of r (chain.feeds (suc k))
        < scale * removal chain rate (suc k) * r (suc k) + 2 * (scale * removal chain rate (suc k))
    little k h = rw (reported.later k h) (rounded_little scale _ K _ pos (omega arith) (omega arith))

    pub reported_at_most : r i ≤ G
    reported_at_most =
        let flow = member_bound sound r 0 i l (kept rate sound i r rounded_down) in
        le_of_mul-le-mul_left {k = scale} (omega (arith, ap (λ t. scale * t) reported.parent)) pos

    pub reported_inflow : suc i < chain.count → inflow_of r (chain.feeds (suc i)) ≤ scale * G
    reported_inflow more =
        let flow = inflow_bound sound r 0 i more (kept rate sound i r rounded_down) in
        omega (arith, ap (λ t. scale * t) reported.parent)

  module _ {P : ℕ} {x : ℕ → ℕ} (exact : ExactFactors scale chain rate i P x) where
    pub exact_at_most : x i ≤ P
    exact_at_most =
        let flow = member_bound sound x 0 i l (kept rate sound i x (λ k h. le_of_eq (exact.later k h))) in
        le_of_mul-le-mul_left {k = scale} (omega (arith, ap (λ t. scale * t) exact.parent)) pos

    pub exact_inflow : suc i < chain.count → inflow_of x (chain.feeds (suc i)) ≤ scale * P
    exact_inflow more =
        let flow = inflow_bound sound x 0 i more (kept rate sound i x (λ k h. le_of_eq (exact.later k h))) in
        omega (arith, ap (λ t. scale * t) exact.parent)

    module _ {r : ℕ → ℕ} (reported : ReportedFactors scale chain rate i r) where
      pub below_exact : (k : ℕ) → k ≤ i → P * r k ≤ G * x k
      below_exact =
          let parent : P * r 0 ≤ G * x 0 =
          omega (arith, ap (λ t. P * t) reported.parent, ap (λ t. G * t) exact.parent) in
          stays_below chain (λ k. le_refl (rate k)) pos sound i l P G P x r exact parent (rounded_down reported)

      -- What the reported factor lacks, over P.
      lack : ℕ → ℕ
      lack k = G * x k - P * r k

      lacking : (k : ℕ) → k ≤ i → lack k + P * r k ≡ G * x k
      unfolding lack
      lacking k le = sub-add_cancel (below_exact k le)

      none_lacking : lack 0 ≡ 0
      none_lacking =
          omega (arith, lacking 0 (omega arith), ap (λ t. P * t) reported.parent, ap (λ t. G * t) exact.parent)

      module _ (pos_p : 0 < P) where
        losses : (k : ℕ) → k < i → scale * lack (suc k) < inflow_of lack (chain.feeds (suc k)) + 2 * (scale * P)
        losses k h =
            let D = removal chain rate (suc k) in
            let below = sound.from_lower (suc k) (omega arith) in
            let inflows =
            inflow_le G 1 P x lack r (suc k) (chain.feeds (suc k)) below
            (λ j m. omega (arith, lacking j (omega arith))) in
            loss_passes scale D K P G _ _ _ _ _ _ pos_p (omega arith) (exact.later k h) (little reported k h)
            (lacking (suc k) h) (omega arith)

        pub less_than_2i : 0 < i → G * x i < P * r i + 2 * i * P
        less_than_2i later =
            let β = 2 * (scale * P) - 1 in
            let less : β + 1 ≡ 2 * (scale * P) = sub-add_cancel (omega (arith, mul-pos pos pos_p)) in
            let flow = member_bound sound lack β i l (λ k h. omega (arith, losses k h)) in
            omega (arith, lacking i (le_refl i), losses_add scale i P β (lack i) (lack 0) none_lacking less later flow)
