-- The figures that are worked out from the arrays that the code holds of a book: its members' numbers, and their
-- factors.
use Rattle.std.specs.Prelude.{ℕ, ◌≤◌, ◌<◌, ◌≡◌, List, length, Option}
use Rattle.verdict.specs.HeldNumbers.{assessment_in, alpha_in, judged_on, Judgeable}
use Rattle.verdict.specs.WorkingLevels.{working_levels}
use Rattle.coefficients.specs.declared.set.CoefficientSet.{CoefficientSet}
use Rattle.screening.specs.declared.job.Figures.{Figures}
use Rattle.verdict.specs.declared.verdict.Criterion.{Criterion}
use Rattle.verdict.specs.declared.verdict.Judgement.{Judgement}
use Rattle.verdict.specs.declared.working.WorkingLevels.{WorkingLevels}

-- The figures that a book's numbers and divisor and two arrays of factors give, at the rate and at rate 0, and what is
-- asked of them.
abbrev pub figures_by : CoefficientSet → ℕ → Judgement → Option WorkingLevels → Figures
figures_by set C judged working =
    record { set = set; concentration = C; verdict = judged.verdict; level = judged.level; working = working }

abbrev pub figures_in : CoefficientSet → Criterion → ℕ → ℕ → List (List ℕ) → List ℕ → List ℕ → Figures
figures_in set by C W coefficients factors at_zero =
    figures_by set C
    (judged_on (assessment_in by coefficients factors) C)
    (working_levels (alpha_in coefficients factors) (alpha_in coefficients at_zero) C W)

pub record Figurable (by : Criterion) (C W : ℕ) (coefficients : List (List ℕ)) (factors at_zero : List ℕ) : Type 0 where
  pub judgeable : Judgeable by C coefficients factors
  pub zeroed_rows : length coefficients ≡ length at_zero
  pub falls : alpha_in coefficients factors ≤ alpha_in coefficients at_zero
  pub some_divisor : 0 < W
