-- The balance as equations over a number for each member, and that the lists of the definitions solve them.
-- The exact factors stand as numerators over one denominator P;
-- a new member multiplies both sides of the earlier equations alike.
use Prim.Native.Nat.{ℕ, zero, suc, ◌*◌, ◌/◌, ◌≤◌, ◌<◌}
use native.Mathlib.Nat.{le_refl, eq-or-lt_of_le, le_of_suc-le-suc}
use native.Mathlib.Omega.{arith}
use mathlib.Core.Path.{◌≡◌, refl, ap, ◌∙◌}
use mathlib.Core.Logic.{◌⊎◌, inl, inr}
use lib.ListN.{get_or}
use Rattle.balance.specs.Chain.{Chain}
use Rattle.balance.specs.Sound.{Sound}
use Rattle.balance.specs.Balance.{G, K, removal, reported_factor}
use Rattle.balance.specs.Exact.{numerators, denominator}
use Rattle.balance.proofs.AnyChain.Inflow.{inflow_of, inflow_of_list, inflow_scaled}
use Rattle.balance.proofs.AnyChain.Numerators.{numerators_earlier, numerators_next}
use Rattle.balance.proofs.AnyChain.Reported.{reported_parent, reported_later}

-- Of members 0 to i.
pub record ReportedFactors (scale : ℕ) (chain : Chain) (rate : ℕ → ℕ) (i : ℕ) (r : ℕ → ℕ) : Type 0 where
  pub parent : r 0 ≡ G
  pub later : (k : ℕ) → k < i → r (suc k) ≡ inflow_of r (chain.feeds (suc k)) / scale * K / removal chain rate (suc k)

pub record ExactFactors (scale : ℕ) (chain : Chain) (rate : ℕ → ℕ) (i P : ℕ) (x : ℕ → ℕ) : Type 0 where
  pub parent : x 0 ≡ P
  pub later : (k : ℕ) → k < i → scale * removal chain rate (suc k) * x (suc k) ≡ K * inflow_of x (chain.feeds (suc k))

-- An equation of the balance with both sides multiplied by c.
scaled : (K s D c x y inflow scaled_inflow : ℕ) → y ≡ c * x → scaled_inflow ≡ c * inflow → s * D * x ≡ K * inflow →
    s * D * y ≡ K * scaled_inflow
scaled K s D c x y inflow scaled_inflow ey ei e =
    let member = ap (λ t. s * D * t) ey in
    let feeds = ap (λ t. K * t) ei in
    let both = ap (λ t. c * t) e in
    omega arith

module _ (scale : ℕ) (chain : Chain) (rate : ℕ → ℕ) (sound : Sound scale chain) where
  pub reported_solves : (i : ℕ) → i < chain.count →
      ReportedFactors scale chain rate i (reported_factor scale chain rate)
  reported_solves i l =
      record {
        parent = reported_parent scale chain rate;
        later = λ k h. reported_later scale chain rate sound k (omega arith);
      }

  one_more :
      (i P : ℕ) (x y : ℕ → ℕ)
      → suc i < chain.count
      → ExactFactors scale chain rate i P x
      → ((k : ℕ) → k ≤ i → y k ≡ scale * removal chain rate (suc i) * x k)
      → y (suc i) ≡ K * inflow_of x (chain.feeds (suc i))
      → ExactFactors scale chain rate (suc i) (P * (scale * removal chain rate (suc i))) y
  one_more i P x y l solves earlier next =
      record { parent = first; later = λ k h. last_or_before k (eq-or-lt_of_le (le_of_suc-le-suc h)) }
    where
      c : ℕ
      c = scale * removal chain rate (suc i)

      first : y 0 ≡ P * c
      first = omega (arith, earlier 0 (omega arith), ap (λ t. c * t) solves.parent)

      inflows : (k : ℕ) → k ≤ i → inflow_of y (chain.feeds (suc k)) ≡ c * inflow_of x (chain.feeds (suc k))
      inflows k le =
          inflow_scaled c y x (suc k) (chain.feeds (suc k)) (sound.from_lower (suc k) (omega arith))
          (λ j h. earlier j (omega arith))

      last_or_before : (k : ℕ) → (k ≡ i) ⊎ (k < i) →
          scale * removal chain rate (suc k) * y (suc k) ≡ K * inflow_of y (chain.feeds (suc k))
      last_or_before k (inl e) = rw e (omega (arith, ap (λ t. c * t) next, ap (λ t. K * t) (inflows i (le_refl i))))
      last_or_before k (inr h) =
          scaled K scale (removal chain rate (suc k)) c (x (suc k)) _ _ _ (earlier (suc k) h) (inflows k (omega arith))
          (solves.later k h)

  -- The numerators of members 0 to i, over the denominator of member i.
  pub exact_solves :
      (i : ℕ)
      → i < chain.count
      → ExactFactors scale chain rate i (denominator scale chain rate i)
      (λ k. get_or (numerators scale chain rate i) k 0)
  unfolding denominator numerators
  exact_solves zero l = record { parent = refl; later = λ k h. absurd (omega arith) }
  exact_solves (suc i) l =
      one_more
      i
      (denominator scale chain rate i)
      (λ k. get_or (numerators scale chain rate i) k 0)
      (λ k. get_or (numerators scale chain rate (suc i)) k 0)
      l
      (exact_solves i (omega arith))
      (numerators_earlier scale chain rate i)
      (numerators_next scale chain rate i
      ∙ ap (λ y. K * y) (inflow_of_list (numerators scale chain rate i) (chain.feeds (suc i))))
