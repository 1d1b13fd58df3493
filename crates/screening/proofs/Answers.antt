-- What an answer with figures says: the checks passed, and the figures are the definition's. So its verdict keeps
-- demand 3's promise and its working levels theirs, and of two jobs that differ in the rate alone the one with the
-- higher rate has no worse verdict.
use Rattle.refusals.specs.declared.Refusal.{Refusal}
use Rattle.refusals.specs.Grounds.{Checked}
use Rattle.std.specs.Prelude.{Ok, Err, Result}
use Prim.Native.Nat.{ℕ, ◌≤◌, ◌<◌}
use native.Mathlib.Omega.{arith}
use mathlib.Core.Path.{◌≡◌, refl, ap, sym, subst, ◌∙◌}
use mathlib.Core.List.{List}
use lib.ListN.{drop}
use Rattle.book.specs.Limits.{max_members}
use Rattle.book.specs.Fields.{working_level_divisor}
use Rattle.book.proofs.Ranges.{few_members}
use Rattle.coefficients.specs.Sets.{set_in_use, coefficient_in_use}
use Rattle.exposure.specs.Totals.{Z}
use Rattle.exposure.proofs.WithinLimits.{child_years}
use Rattle.screening.specs.Job.{rate, rate_length, exposure_of, concentration_of, book_of}
use Rattle.screening.specs.JobGrounds.{checked_with}
use Rattle.verdict.specs.Verdict.{Assessment, verdict_at, verdict_order, level}
use Rattle.screening.specs.Screening.{criterion_of, assessment_at, alpha_at}
use Rattle.screening.specs.Screening.{alpha_at_rest, screened_at, figures_at, answer_for, answer_with}
use Rattle.verdict.specs.WorkingLevels.{working_levels}
use Rattle.verdict.specs.CommonFactor.{Unchanged}
use Rattle.verdict.proofs.LevelNumbers.{none_there, some_there}
use Rattle.screening.specs.Promises.{AnswerPromise, LevelsPromise}
use Rattle.screening.specs.declared.job.Answer.{Answer}
use Rattle.screening.specs.declared.job.Figures.{Figures}
use Rattle.verdict.specs.declared.verdict.Criterion.{Criterion}
use Rattle.verdict.specs.declared.verdict.Verdict.{Verdict}
use Rattle.screening.proofs.JobChecks.{JobPasses, job_passes}
use Rattle.screening.proofs.SameBytes.{judged_same}
use Rattle.screening.proofs.Soundness.{verdict_promise}
use Rattle.screening.proofs.Falling.{no_worse, equilibrium_at_most_one}

abbrev pub screened_of : List ℕ → List ℕ → Answer
screened_of job second = screened_at (criterion_of job) (book_of job) second (rate job) (concentration_of job)

abbrev pub judged : Criterion → List ℕ → List ℕ → ℕ → ℕ → Verdict
judged by book second v C = verdict_at (assessment_at by book (coefficient_in_use book second) v) C

screened_passed :
    (found : Checked) (job second : List ℕ) (answer : Answer) → answer_for found job second ≡ Ok answer →
    (found ≡ Ok tt) × (answer ≡ screened_of job second)
screened_passed (Ok tt) job second answer e = (refl, cc)
screened_passed (Err r) job second answer e = absurd (let z : ◌≡◌ {A = ℕ} 0 1 = cc in omega arith)

module _ (job second : List ℕ) (answer : Answer) (answered : answer_with job second ≡ Ok answer) where
  abbrev figures : Figures
  figures = answer.figures

  abbrev book : List ℕ
  book = book_of job

  abbrev in_use : ℕ → ℕ → ℕ
  in_use = coefficient_in_use book second

  screened : (checked_with job book second ≡ Ok tt) × (answer ≡ screened_of job second)
  screened = screened_passed (checked_with job book second) job second answer answered

  pub passed : checked_with job book second ≡ Ok tt
  passed = screened.0

  pub passes : JobPasses job book second
  passes = job_passes job book second passed

  pub answer_is : answer ≡ screened_of job second
  answer_is = screened.1

  pub few : answer.count ≤ max_members
  few = rw answer_is (few_members book passes.accepted)

  pub verdict_is : figures.verdict ≡ judged (criterion_of job) book second (rate job) (concentration_of job)
  unfolding figures_at
  verdict_is = ap (λ a. a.figures.verdict) answer_is

  pub level_is : figures.level ≡ level (assessment_at (criterion_of job) book in_use (rate job))
  unfolding figures_at
  level_is = ap (λ a. a.figures.level) answer_is

  pub set_is : figures.set ≡ set_in_use second
  unfolding figures_at
  set_is = ap (λ a. a.figures.set) answer_is

  pub concentration_is : figures.concentration ≡ concentration_of job
  unfolding figures_at
  concentration_is = ap (λ a. a.figures.concentration) answer_is

  working_is :
      figures.working
      ≡ working_levels (alpha_at book in_use (rate job)) (alpha_at_rest book in_use) (concentration_of job)
      (working_level_divisor book)
  unfolding figures_at
  working_is = ap (λ a. a.figures.working) answer_is

  pub levels : LevelsPromise job second figures.working
  levels =
      let at_rate = alpha_at book in_use (rate job) in
      let at_rest = alpha_at_rest book in_use in
      let divisor = working_level_divisor book in
      rw working_is
      (record {
        none = none_there at_rate (concentration_of job) divisor;
        some = λ pos.
            some_there at_rate at_rest (concentration_of job) divisor pos
            (equilibrium_at_most_one book in_use (rate job) passes.accepted passes.fields.rate)
            passes.reading.within;
      })

  -- The verdict and the level are those of every assessment that comes out as the job's.
  pub as_judged :
      (a : Assessment) → Unchanged a (assessment_at (criterion_of job) book in_use (rate job)) →
      (figures.verdict ≡ verdict_at a figures.concentration) × (figures.level ≡ level a)
  as_judged a same = (
    verdict_is
        ∙ ap (judged (criterion_of job) book second (rate job)) (sym concentration_is)
        ∙ same.verdict figures.concentration,
    level_is ∙ same.level,
  )

  pub some_years : 0 < Z (exposure_of job)
  some_years = (child_years (exposure_of job) passes.fields.exposure).2

pub answer_promise : (job second : List ℕ) → AnswerPromise job second (answer_with job second)
answer_promise job second answer answered =
    let book = book_of job in
    let passes = passes job second answer answered in
    let promise =
    verdict_promise (criterion_of job) book (coefficient_in_use book second) (rate job) (concentration_of job)
    passes.accepted passes.fields.rate
    in
    rw (concentration_is job second answer answered, verdict_is job second answer answered) promise

-- What an answer keeps that is the definition's.
pub kept : (job second : List ℕ) {answer : Result Answer Refusal} → answer ≡ answer_with job second →
    AnswerPromise job second answer
kept job second e = subst (AnswerPromise job second) (sym e) (answer_promise job second)

module _ (job other second : List ℕ) (same : drop rate_length job ≡ drop rate_length other) where
  pub no_worse_answer :
      (answer another : Answer) → rate job ≤ rate other → answer_with job second ≡ Ok answer →
      answer_with other second ≡ Ok another →
      verdict_order another.figures.verdict ≤ verdict_order answer.figures.verdict
  no_worse_answer answer another rises answered other-answered =
      let book = book_of other in
      let passes = passes other second another other-answered in
      let falls =
      no_worse book (coefficient_in_use book second) (rate job) (rate other) passes.accepted rises
      passes.fields.rate (criterion_of other) (concentration_of other)
      in
      let here =
      verdict_is job second answer answered
      ∙ judged_same job other same (λ by b. judged by b second (rate job))
      in
      rw (verdict_is other second another other-answered, here) falls
