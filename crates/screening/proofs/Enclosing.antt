-- The exact factors of a chain's members, over the last member's denominator, enclose the reported ones.
-- The promise of each member's factor speaks of its own denominator; equal fractions compare alike with any number.
use Prim.Native.Nat.{ℕ, ◌-◌, ◌*◌, ◌≤◌, ◌<◌}
use native.Mathlib.Nat.{mul-le-mul_left, le_of_mul-le-mul_left}
use native.Mathlib.Omega.{arith}
use mathlib.Core.Path.{◌≡◌, ap}
use lib.ListN.{get_or}
use Rattle.balance.specs.Chain.{Chain}
use Rattle.balance.specs.Balance.{G}
use Rattle.balance.specs.Exact.{numerators, numerator, denominator}
use Rattle.balance.specs.Promises.{FactorPromise}
use Rattle.balance.proofs.AnyChain.Numerators.{denominator_pos}
use Rattle.balance.proofs.Raised.{exact_at_most_raised}
use Rattle.screening.proofs.OneDenominator.{one_denominator}
use Rattle.verdict.specs.Promises.{Enclosed}

-- x / P and n / d.
record SameFraction (x P n d : ℕ) : Type 0 where
  crossed : x * d ≡ n * P
  positive : 0 < d

module _ {x P n d : ℕ} (same : SameFraction x P n d) (y c : ℕ) where
  below_fraction : y * d ≤ n * c → y * P ≤ x * c
  below_fraction h =
      le_of_mul-le-mul_left {k = d} (omega (arith, mul-le-mul_left P h, ap (λ t. c * t) same.crossed)) same.positive

  above_fraction : n * c ≤ y * d → x * c ≤ y * P
  above_fraction h =
      le_of_mul-le-mul_left {k = d} (omega (arith, mul-le-mul_left P h, ap (λ t. c * t) same.crossed)) same.positive

module _ {scale : ℕ} {chain : Chain} {rate : ℕ → ℕ} where
  module _ (pos : 0 < scale) (n : ℕ) {f : ℕ → ℕ}
      (promises : (i : ℕ) → i < n → FactorPromise scale chain rate i (f i)) where
    same :
        (i : ℕ) → i < n →
        SameFraction
        (get_or (numerators scale chain rate (n - 1)) i 0)
        (denominator scale chain rate (n - 1))
        (numerator scale chain rate i)
        (denominator scale chain rate i)
    same i l =
        record {
          crossed = one_denominator scale chain rate (n - 1) i (omega arith);
          positive = denominator_pos scale chain rate pos i;
        }

    pub factors_enclosed :
        Enclosed n (denominator scale chain rate (n - 1)) f (λ i. get_or (numerators scale chain rate (n - 1)) i 0)
    factors_enclosed =
        record {
          not_above = λ i l. below_fraction (same i l) _ G (promises i l).never_above;
          at_most_raised = λ i l. above_fraction (same i l) _ G (exact_at_most_raised i (promises i l));
        }
