-- B for an exposure in whole hours, as it stood before the exposure was in quarter hours, for dose with 100 in Z's
-- place. No room is judged by it any more. It says what "each verdict and level must come out unchanged" means of an
-- assessment, at the end.
use Rattle.std.specs.Prelude.{ℕ, ◌*◌, ◌^◌}
use Rattle.balance.specs.Balance.{G}
use Rattle.exposure.specs.declared.kind.Kind.{Kind}
use Rattle.verdict.specs.Verdict.{Assessment, weight_of, assessment_by}
use Rattle.verdict.specs.CommonFactor.{Unchanged}
use Rattle.verdict.specs.declared.verdict.Criterion.{Criterion}

abbrev pub hours_bound : Kind → ℕ → ℕ
hours_bound Kind.Risk target = target * 37 * 8760 * 10 ^ 8 * G
hours_bound Kind.Dose target = target * 100 * 37 * 8760 * 10 ^ 7 * G

-- What the verdict was reached on. The formula of q is the one that stands.
abbrev pub hours_assessment_by : Criterion → ℕ → (ℕ → ℕ → ℕ) → (ℕ → ℕ) → Assessment
hours_assessment_by by count coefficient factor =
    record { count = count; weight = weight_of by coefficient; factor = factor; bound = hours_bound by.kind by.target }

-- X and Y restated in quarter hours.
abbrev pub criterion_in_quarters : Criterion → Criterion
criterion_in_quarters by = record { kind = by.kind; x = 4 * by.x; y = 4 * by.y; target = by.target }

-- Restated, verdict and level are as they were (document 02, R-1).
abbrev pub RestatedPromise : Type 0
RestatedPromise =
    (by : Criterion) (count : ℕ) (coefficient : ℕ → ℕ → ℕ) (factor : ℕ → ℕ) →
    Unchanged
    (hours_assessment_by by count coefficient factor)
    (assessment_by (criterion_in_quarters by) count coefficient factor)
