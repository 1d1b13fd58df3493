-- The test whose first rate is sought.
use Rattle.std.specs.Prelude.{ℕ, Bool, List}
use Rattle.verdict.specs.Verdict.{verdict_at}
use Rattle.screening.specs.Screening.{assessment_at}
use Rattle.verdict.specs.declared.verdict.Criterion.{Criterion}
use Rattle.ventilation.specs.Lowest.{says_below}

-- Whether the verdict on a room is 'below' at a rate, with the coefficients in use.
abbrev pub below_at : Criterion → List ℕ → (ℕ → ℕ → ℕ) → ℕ → ℕ → Bool
below_at by book coefficient C v = says_below (verdict_at (assessment_at by book coefficient v) C)
