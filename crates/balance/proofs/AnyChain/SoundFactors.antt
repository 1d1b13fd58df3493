-- Demand 3's promises of a sound chain's factors, for any scale and any rate of each member.
-- The definitions' lists solve the balance's equations, and the laws of the equations say the rest.
use Prim.Native.Nat.{ℕ, suc, ◌*◌, ◌≤◌, ◌<◌}
use native.Mathlib.Nat.{le_refl}
use native.Mathlib.Omega.{arith}
use mathlib.Core.Path.{ap, ◌∙◌}
use lib.ListN.{get_or}
use Rattle.balance.specs.Chain.{Chain}
use Rattle.balance.specs.Sound.{Sound}
use Rattle.balance.specs.Balance.{G, inflow, reported, reported_factor}
use Rattle.balance.specs.Exact.{numerators, denominator}
use Rattle.balance.specs.Promises.{FactorPromise, FallPromise}
use Rattle.balance.proofs.AnyChain.Reported.{reported_at, inflow_reported}
use Rattle.balance.proofs.AnyChain.Numerators.{denominator_pos}
use Rattle.balance.proofs.AnyChain.Equations.{reported_solves, exact_solves}
use Rattle.balance.proofs.AnyChain.Bounds.{reported_at_most, reported_inflow, exact_at_most, below_exact, less_than_2i}
use Rattle.balance.proofs.AnyChain.Monotone.{reported_falls_along, exact_falls_along}

module _ {scale : ℕ} {chain : Chain} (pos : 0 < scale) (sound : Sound scale chain) where
  pub factor_promise : {rate : ℕ → ℕ} (i : ℕ) → i < chain.count →
      FactorPromise scale chain rate i (reported_factor scale chain rate i)
  factor_promise {rate} i l =
      let P = denominator scale chain rate i in
      let exact = exact_solves scale chain rate sound i l in
      let solved = reported_solves scale chain rate sound i l in
      record {
        exact_at_most_one = exact_at_most pos sound i l exact;
        never_above = omega (arith, below_exact pos sound i l exact solved i (le_refl i));
        parent_equal = λ e.
            let grains = ap (λ t. t * P) (ap (reported_factor scale chain rate) e ∙ solved.parent) in
            let whole = ap (λ t. t * G) (ap (λ k. get_or (numerators scale chain rate i) k 0) e ∙ exact.parent) in
            omega arith;
        less_than_2i_below =
            λ later.
            omega (arith, less_than_2i pos sound i l exact solved (denominator_pos scale chain rate pos i) later);
      }

  pub fall_promise :
      {rate higher : ℕ → ℕ} → ((k : ℕ) → rate k ≤ higher k) → (i : ℕ) → i < chain.count →
      FallPromise scale chain rate higher i
  fall_promise {rate} {higher} rises i l =
      let exact = exact_solves scale chain rate sound i l in
      let exact_higher = exact_solves scale chain higher sound i l in
      let solved = reported_solves scale chain rate sound i l in
      let solved_higher = reported_solves scale chain higher sound i l in
      record {
        exact_falls = omega (arith, exact_falls_along pos sound rises i l exact exact_higher i (le_refl i));
        reported_falls = reported_falls_along pos sound rises i l solved solved_higher i (le_refl i);
      }

  -- For the widths of the code's numbers: no factor is above the parent's, and no inflow above the whole of it.
  pub reported_at_most_g : (rate : ℕ → ℕ) (i k : ℕ) → i < chain.count → k ≤ i →
      get_or (reported scale chain rate i) k 0 ≤ G
  reported_at_most_g rate i k l le =
      let within : k < chain.count = omega arith in
      rw (reported_at scale chain rate i k le)
      (reported_at_most pos sound k within (reported_solves scale chain rate sound k within))

  pub inflow_at_most_g : (rate : ℕ → ℕ) (i : ℕ) → suc i < chain.count →
      inflow (reported scale chain rate i) (chain.feeds (suc i)) ≤ scale * G
  inflow_at_most_g rate i l =
      let within : i < chain.count = omega arith in
      rw (inflow_reported scale chain rate sound i l)
      (reported_inflow pos sound i within (reported_solves scale chain rate sound i within) l)
