-- Yearly dose as document 01 had it before document 02's R-2, in the quarter hours of
-- R-1: the years themselves in X and Y, and Z in B. No room is judged by these any more.
-- They say that R-2 differs from them by the rounding of the shares alone, at the end.
use Rattle.std.specs.Prelude.{ℕ, ◌*◌, ◌^◌, ◌<◌, ◌≡◌, List, Ok}
use Rattle.book.specs.Fields.{members}
use Rattle.coefficients.specs.Sets.{coefficient_in_use}
use Rattle.balance.specs.Balance.{G}
use Rattle.balance.specs.Factors.{factor_at}
use Rattle.exposure.specs.Totals.{Z, share, X, Y}
use Rattle.exposure.specs.declared.groups.Exposure.{Exposure}
use Rattle.exposure.specs.declared.kind.Kind.{Kind}
use Rattle.screening.specs.Job.{rate, kind, kind_of, target, exposure_of, book_of}
use Rattle.verdict.specs.Verdict.{Assessment, weight_of, verdict_at, level}
use Rattle.screening.specs.Screening.{criterion_for, assessment_at, answer_with}
use Rattle.verdict.specs.CommonFactor.{Unchanged}
use Rattle.screening.specs.declared.job.Answer.{Answer}
use Rattle.verdict.specs.declared.verdict.Criterion.{Criterion}

-- Risk still has X and Y of the years themselves.
abbrev pub years_criterion : Exposure → ℕ → Criterion
years_criterion e target = record { kind = Kind.Dose; x = X Kind.Risk e; y = Y Kind.Risk e; target = target }

-- B.
abbrev pub years_bound : Exposure → ℕ → ℕ
years_bound e target = target * Z e * 37 * (4 * 8760) * 10 ^ 7 * G

-- What the verdict was reached on.
abbrev pub years_assessment : Exposure → ℕ → List ℕ → (ℕ → ℕ → ℕ) → ℕ → Assessment
years_assessment e target book coefficient v =
    record {
      count = members book;
      weight = weight_of (years_criterion e target) coefficient;
      factor = factor_at book v;
      bound = years_bound e target;
    }

-- The same of a job.
abbrev pub years_assessment_of : List ℕ → List ℕ → Assessment
years_assessment_of job second =
    years_assessment (exposure_of job) (target job) (book_of job) (coefficient_in_use (book_of job) second) (rate job)

-- Each group's share is 100 × ED / Z itself.
pub record Unrounded (e : Exposure) : Type 0 where
  pub child : share e.child.years (Z e) * Z e ≡ 100 * e.child.years
  pub adult : share e.adult.years (Z e) * Z e ≡ 100 * e.adult.years

pub record UnroundedPromise : Type 0 where
  -- where no share is rounded, verdict and level are document 01's
  pub judged :
      (e : Exposure) (target : ℕ) (book : List ℕ) (coefficient : ℕ → ℕ → ℕ) (v : ℕ) → 0 < Z e → Unrounded e →
      Unchanged (years_assessment e target book coefficient v)
      (assessment_at (criterion_for Kind.Dose e target) book coefficient v)
  -- and so they stand in the answer to the job
  pub answer :
      (job second : List ℕ) (answer : Answer) →
      kind_of (kind job) ≡ Kind.Dose → Unrounded (exposure_of job) → answer_with job second ≡ Ok answer →
      (answer.figures.verdict ≡ verdict_at (years_assessment_of job second) answer.figures.concentration)
      × (answer.figures.level ≡ level (years_assessment_of job second))
  -- no share is rounded in a room that has one group
  pub adults_alone : (e : Exposure) → e.child.years ≡ 0 → 0 < Z e → Unrounded e
  pub children_alone : (e : Exposure) → e.adult.years ≡ 0 → 0 < Z e → Unrounded e
