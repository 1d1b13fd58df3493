-- An exposure in whole hours, restated in quarter hours, has four times its X and Y: so verdict and level are those of
-- the formulas in whole hours, as they are for any assessment.
use Rattle.std.specs.Prelude.{Ok}
use Prim.Native.Nat.{ℕ}
use mathlib.Core.Path.{◌≡◌, sym, subst}
use mathlib.Core.List.{List}
use Rattle.book.specs.Fields.{members}
use Rattle.coefficients.specs.Sets.{coefficient_in_use}
use Rattle.balance.specs.Factors.{factor_at}
use Rattle.exposure.specs.WholeHours.{HoursExposure, in_quarters}
use Rattle.exposure.specs.declared.kind.Kind.{Kind}
use Rattle.exposure.proofs.Restated as restated
use Rattle.screening.specs.Job.{rate, exposure_of, book_of}
use Rattle.verdict.specs.Verdict.{verdict_at, level}
use Rattle.screening.specs.Screening.{criterion_for, criterion_of, assessment_at, answer_with}
use Rattle.screening.specs.WholeHours.{hours_criterion, hours_assessment, hours_assessment_of, WholeHoursPromise}
use Rattle.verdict.specs.CommonFactor.{Unchanged}
use Rattle.screening.specs.declared.job.Answer.{Answer}
use Rattle.verdict.proofs.Restated as any
use Rattle.screening.proofs.Answers.{as_judged}

judged :
    (kind : Kind) (e : HoursExposure) (target : ℕ) (book : List ℕ) (coefficient : ℕ → ℕ → ℕ) (v : ℕ) →
    Unchanged (hours_assessment kind e target book coefficient v)
    (assessment_at (criterion_for kind (in_quarters e) target) book coefficient v)
judged kind e target book coefficient v =
    rw ((restated.whole_hours).x kind e, (restated.whole_hours).y kind e)
    (any.restated (hours_criterion kind e target) (members book) coefficient (factor_at book v))

answer :
    (job second : List ℕ) (e : HoursExposure) (answer : Answer) → exposure_of job ≡ in_quarters e →
    answer_with job second ≡ Ok answer →
    (answer.figures.verdict ≡ verdict_at (hours_assessment_of job second e) answer.figures.concentration)
    × (answer.figures.level ≡ level (hours_assessment_of job second e))
answer job second e given same answered =
    let book = book_of job in
    let by = criterion_of job in
    let in_use = coefficient_in_use book second in
    as_judged job second given answered (hours_assessment_of job second e)
    (subst
    (λ x. Unchanged (hours_assessment_of job second e)
    (assessment_at (criterion_for by.kind x by.target) book in_use (rate job)))
    (sym same)
    (judged by.kind e by.target book in_use (rate job)))

pub whole_hours : WholeHoursPromise
whole_hours = record { judged = judged; answer = answer }
