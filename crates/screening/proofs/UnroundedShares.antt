-- Where no share is rounded, share × Z is 100 × ED.
-- So Z times what the verdict is reached on is 100 times what it was reached on before.
use Rattle.std.specs.Prelude.{Ok}
use Prim.Native.Nat.{ℕ, ◌*◌, ◌<◌}
use native.Mathlib.Omega.{arith}
use mathlib.Core.Path.{◌≡◌, ap, sym, subst}
use mathlib.Core.List.{List}
use Rattle.book.specs.Fields.{members}
use Rattle.coefficients.specs.Sets.{coefficient_in_use}
use Rattle.balance.specs.Factors.{factor_at}
use Rattle.exposure.specs.Totals.{Z, X, Y}
use Rattle.exposure.specs.declared.groups.Exposure.{Exposure}
use Rattle.exposure.specs.declared.kind.Kind.{Kind}
use Rattle.rounding.proofs.Between.{unrounded}
use Rattle.screening.specs.Job.{rate, kind, kind_of, target, exposure_of, book_of}
use Rattle.verdict.specs.Verdict.{verdict_at, level}
use Rattle.screening.specs.Screening.{criterion_for, assessment_at, answer_with}
use Rattle.verdict.specs.CommonFactor.{Unchanged}
use Rattle.screening.specs.UnroundedShares.{years_bound, years_assessment}
use Rattle.screening.specs.UnroundedShares.{years_assessment_of, Unrounded, UnroundedPromise}
use Rattle.screening.specs.declared.job.Answer.{Answer}
use Rattle.verdict.proofs.Proportion.{same_verdicts}
use Rattle.screening.proofs.Answers.{as_judged, some_years}

module _ (e : Exposure) (exact : Unrounded e) where
  x_carries : 100 * X Kind.Risk e ≡ Z e * X Kind.Dose e
  x_carries =
      omega (
        arith,
        ap (λ t. e.child.days * e.child.quarter_hours * e.child.breathing * t) exact.child,
        ap (λ t. e.adult.days * e.adult.quarter_hours * e.adult.breathing * t) exact.adult,
      )

  y_carries : 100 * Y Kind.Risk e ≡ Z e * Y Kind.Dose e
  y_carries =
      omega (
        arith,
        ap (λ t. e.child.days * e.child.quarter_hours * t) exact.child,
        ap (λ t. e.adult.days * e.adult.quarter_hours * t) exact.adult,
      )

  judged :
      0 < Z e → (target : ℕ) (book : List ℕ) (coefficient : ℕ → ℕ → ℕ) (v : ℕ) →
      Unchanged (years_assessment e target book coefficient v)
      (assessment_at (criterion_for Kind.Dose e target) book coefficient v)
  judged some_years target book coefficient v =
      same_verdicts Kind.Dose (X Kind.Risk e) (Y Kind.Risk e) (years_bound e target) (X Kind.Dose e)
      (Y Kind.Dose e) target
      (members book) coefficient (factor_at book v) (Z e) 100 some_years
      (omega arith)
      x_carries
      y_carries
      (omega arith)

answer :
    (job second : List ℕ) (answer : Answer) → kind_of (kind job) ≡ Kind.Dose →
    Unrounded (exposure_of job) → answer_with job second ≡ Ok answer →
    (answer.figures.verdict ≡ verdict_at (years_assessment_of job second) answer.figures.concentration)
    × (answer.figures.level ≡ level (years_assessment_of job second))
answer job second given dose exact answered =
    let book = book_of job in
    let in_use = coefficient_in_use book second in
    as_judged job second given answered (years_assessment_of job second)
    (subst
    (λ k. Unchanged (years_assessment_of job second)
    (assessment_at (criterion_for k (exposure_of job) (target job)) book in_use (rate job)))
    (sym dose)
    (judged (exposure_of job) exact (some_years job second given answered) (target job) book in_use (rate job)))

adults_alone : (e : Exposure) → e.child.years ≡ 0 → 0 < Z e → Unrounded e
adults_alone e none some_years =
    record { child = unrounded 0 some_years (omega arith); adult = unrounded 100 some_years (omega arith) }

children_alone : (e : Exposure) → e.adult.years ≡ 0 → 0 < Z e → Unrounded e
children_alone e none some_years =
    record { child = unrounded 100 some_years (omega arith); adult = unrounded 0 some_years (omega arith) }

pub unrounded_shares : UnroundedPromise
unrounded_shares =
    record {
      judged = λ e target book coefficient v some_years exact. judged e exact some_years target book coefficient v;
      answer = answer;
      adults_alone = adults_alone;
      children_alone = children_alone;
    }
