-- At a higher rate no verdict is worse, and the equilibrium factor is at most 1, since no reported factor is larger
-- there.
use Prim.Native.Nat.{ℕ, ◌≤◌, ◌<◌}
use native.Mathlib.Omega.{arith}
use mathlib.Core.Path.{◌≡◌, refl, subst}
use mathlib.Core.List.{List}
use Rattle.book.specs.Rates.{max_rate, rates_at}
use Rattle.book.specs.Fields.{members}
use Rattle.book.specs.BookGrounds.{Accepted}
use Rattle.balance.specs.Factors.{factor_at}
use Rattle.balance.proofs.Promised.{factor_promises}
use Rattle.verdict.specs.Verdict.{verdict_at, verdict_order}
use Rattle.verdict.specs.WorkingLevels.{equilibrium}
use Rattle.verdict.specs.declared.verdict.Criterion.{Criterion}
use Rattle.verdict.proofs.Falling as any
use Rattle.screening.specs.Screening.{assessment_at, alpha_at, alpha_at_rest}

pub factor_falls : (book : List ℕ) (v w : ℕ) → Accepted book → v ≤ w → w ≤ max_rate → (i : ℕ) → i < members book →
    factor_at book w i ≤ factor_at book v i
factor_falls book v w accepted rises within i l =
    (factor_promises.at_two_rates book v w i accepted rises within l).reported_falls

module _ (book : List ℕ) (coefficient : ℕ → ℕ → ℕ) (v w : ℕ) (accepted : Accepted book) (rises : v ≤ w)
    (within : w ≤ max_rate) where
  falls : (i : ℕ) → i < members book → factor_at book w i ≤ factor_at book v i
  falls = factor_falls book v w accepted rises within

  pub no_worse :
      (by : Criterion) (C : ℕ) → verdict_order (verdict_at (assessment_at by book coefficient w) C)
      ≤ verdict_order (verdict_at (assessment_at by book coefficient v) C)
  no_worse by C =
      any.no_worse (assessment_at by book coefficient v) (assessment_at by book coefficient w)
      (record { count = refl; weight = λ i l. refl; factor = falls; bound = refl })
      C

  pub alpha_falls : alpha_at book coefficient w ≤ alpha_at book coefficient v
  alpha_falls = any.alpha_falls (members book) coefficient falls

-- At rate 0 every member's rate is 0.
pub at_rest : (book : List ℕ) (coefficient : ℕ → ℕ → ℕ) → alpha_at book coefficient 0 ≡ alpha_at_rest book coefficient
unfolding rates_at
at_rest book coefficient = refl

pub alpha_below_rest :
    (book : List ℕ) (coefficient : ℕ → ℕ → ℕ) (v : ℕ) → Accepted book → v ≤ max_rate →
    alpha_at book coefficient v ≤ alpha_at_rest book coefficient
alpha_below_rest book coefficient v accepted within =
    subst (λ rest. alpha_at book coefficient v ≤ rest) (at_rest book coefficient)
    (alpha_falls book coefficient 0 v accepted (omega arith) within)

pub equilibrium_at_most_one :
    (book : List ℕ) (coefficient : ℕ → ℕ → ℕ) (v : ℕ) → Accepted book → v ≤ max_rate →
    equilibrium (alpha_at book coefficient v) (alpha_at_rest book coefficient) ≤ 1000000
equilibrium_at_most_one book coefficient v accepted within =
    any.equilibrium_of_less
    (alpha_at book coefficient v)
    (alpha_at_rest book coefficient)
    (alpha_below_rest book coefficient v accepted within)
