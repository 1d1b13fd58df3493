-- A room whose exposure is in whole hours, judged as document 01 had it before document 02's R-1, for dose with R-2's
-- shares: what its verdict was reached on. No room is judged by these any more. They say what "each verdict and level
-- must come out unchanged" means, at the end.
use Rattle.std.specs.Prelude.{ℕ, ◌≡◌, List, Ok}
use Rattle.book.specs.Fields.{members}
use Rattle.coefficients.specs.Sets.{coefficient_in_use}
use Rattle.balance.specs.Factors.{factor_at}
use Rattle.exposure.specs.WholeHours.{HoursExposure, in_quarters, hours_x, hours_y}
use Rattle.exposure.specs.declared.kind.Kind.{Kind}
use Rattle.screening.specs.Job.{rate, exposure_of, book_of}
use Rattle.verdict.specs.Verdict.{Assessment, verdict_at, level}
use Rattle.screening.specs.Screening.{criterion_for, criterion_of, assessment_at, answer_with}
use Rattle.verdict.specs.CommonFactor.{Unchanged}
use Rattle.verdict.specs.WholeHours.{hours_assessment_by}
use Rattle.screening.specs.declared.job.Answer.{Answer}
use Rattle.verdict.specs.declared.verdict.Criterion.{Criterion}

-- What a room in whole hours was judged by, and what its verdict was reached on.
abbrev pub hours_criterion : Kind → HoursExposure → ℕ → Criterion
hours_criterion kind e target = record { kind = kind; x = hours_x kind e; y = hours_y kind e; target = target }

abbrev pub hours_assessment : Kind → HoursExposure → ℕ → List ℕ → (ℕ → ℕ → ℕ) → ℕ → Assessment
hours_assessment kind e target book coefficient v =
    hours_assessment_by (hours_criterion kind e target) (members book) coefficient (factor_at book v)

-- The same of a job whose exposure is this one.
abbrev pub hours_assessment_of : List ℕ → List ℕ → HoursExposure → Assessment
hours_assessment_of job second e =
    hours_assessment (criterion_of job).kind e (criterion_of job).target (book_of job)
    (coefficient_in_use (book_of job) second) (rate job)

-- Restated in quarter hours, it comes out as these formulas have it, which for risk are document 01's own.
pub record WholeHoursPromise : Type 0 where
  -- verdict and level are as they were, within the limits or not
  pub judged :
      (kind : Kind) (e : HoursExposure) (target : ℕ) (book : List ℕ) (coefficient : ℕ → ℕ → ℕ) (v : ℕ) →
      Unchanged (hours_assessment kind e target book coefficient v)
      (assessment_at (criterion_for kind (in_quarters e) target) book coefficient v)
  -- and so they stand in the answer to the job
  pub answer :
      (job second : List ℕ) (e : HoursExposure) (answer : Answer) →
      exposure_of job ≡ in_quarters e → answer_with job second ≡ Ok answer →
      (answer.figures.verdict ≡ verdict_at (hours_assessment_of job second e) answer.figures.concentration)
      × (answer.figures.level ≡ level (hours_assessment_of job second e))
