-- What an answer by a second set says.
use Rattle.std.specs.Prelude.{Result, Ok, Err}
use mathlib.Core.Path.{◌≡◌, refl, ap, sym, ◌∙◌}
use Prim.Native.Nat.{ℕ}
use mathlib.Core.List.{List, []}
use lib.ListN.{length}
use Rattle.refusals.specs.Grounds.{Checked}
use Rattle.refusals.specs.declared.Refusal.{Refusal}
use Rattle.book.specs.Fields.{members}
use Rattle.coefficients.specs.Sets.{set_in_use, set_number}
use Rattle.coefficients.specs.WrittenOver.{written_over}
use Rattle.coefficients.specs.declared.set.CoefficientSet.{CoefficientSet}
use Rattle.coefficients.proofs.Lent.{not_lent, lent, grounds_same}
use Rattle.coefficients.proofs.WrittenFields.{members_kept}
use Rattle.coefficients.proofs.WrittenOver.{second_written}
use Rattle.screening.specs.Job.{book_of}
use Rattle.screening.specs.JobGrounds.{checked_with, checked_job}
use Rattle.screening.specs.Screening.{figures_at, answer_for, answer_with, answer_of}
use Rattle.screening.specs.SecondSet.{with_set, named, SecondSetPromise}
use Rattle.screening.specs.declared.job.Answer.{Answer}
use Rattle.screening.proofs.Answers.{screened_of, passed, answer_is, set_is}
use Rattle.screening.proofs.JobChecks.{JobPasses, job_passes, found_by_set}
use Rattle.screening.proofs.WrittenFactors.{call_kept, list_kept}
use Rattle.screening.proofs.WrittenJob.{book_is, written_answer}

module _ (job second : List ℕ) (answer : Answer) (answered : answer_with job second ≡ Ok answer) where
  number_is : {n : ℕ} → set_number answer.figures.set ≡ n → set_number (set_in_use second) ≡ n
  number_is named = sym (ap set_number (set_is job second answer answered)) ∙ named

  first : set_number answer.figures.set ≡ 1 → answer_of job ≡ Ok answer
  first named = ap (answer_with job) (sym (not_lent second (number_is named))) ∙ answered

  second_is :
      set_number answer.figures.set ≡ 2 → answer_of (with_set second job) ≡ Ok (named CoefficientSet.Book answer)
  second_is two =
      written_answer job second (passed job second answer answered) (lent second (number_is two))
      ∙ ap (λ a. Ok (named CoefficientSet.Book a)) (sym (answer_is job second answer answered))

same_answer : {a b : Answer} → ◌≡◌ {A = Result Answer Refusal} (Ok a) (Ok b) → a ≡ b
same_answer e = cc

-- Another own set within the limits alters nothing.
module _ (job other second : List ℕ) (two : set_number (set_in_use second) ≡ 2)
    (same : with_set second job ≡ with_set second other) (job_passed : checked_job job (book_of job) ≡ Ok tt)
    (other_passed : checked_job other (book_of other) ≡ Ok tt) where
  is_lent : set_in_use second ≡ CoefficientSet.Second
  is_lent = lent second two

  passes : JobPasses job (book_of job) []
  passes = job_passes job (book_of job) [] job_passed

  other_passes : JobPasses other (book_of other) []
  other_passes = job_passes other (book_of other) [] other_passed

  books_same : written_over second (book_of job) ≡ written_over second (book_of other)
  books_same =
      sym (book_is second job passes.fields.long) ∙ ap book_of same ∙ book_is second other other_passes.fields.long

  members_same : members (book_of job) ≡ members (book_of other)
  members_same =
      sym (members_kept (second_written second (book_of job) passes.accepted))
      ∙ ap members books_same
      ∙ members_kept (second_written second (book_of other) other_passes.accepted)

  found_same : checked_with job (book_of job) second ≡ checked_with other (book_of other) second
  found_same =
      found_by_set job (book_of job) second job_passed
      ∙ grounds_same (book_of job) (book_of other) second is_lent members_same
      ∙ sym (found_by_set other (book_of other) second other_passed)

  -- So what is answered by the checks is the same, if a refusal is the refusal alone.
  module _ {A : Type 0} (answer : Checked → List ℕ → A)
      (refused : (refusal : Refusal) → answer (Err refusal) job ≡ answer (Err refusal) other)
      (accepted : checked_with job (book_of job) second ≡ Ok tt → checked_with other (book_of other) second ≡ Ok tt →
      answer (Ok tt) job ≡ answer (Ok tt) other) where
    by_found : (found : Checked) → checked_with job (book_of job) second ≡ found →
        checked_with other (book_of other) second ≡ found → answer found job ≡ answer found other
    by_found (Err refusal) a b = refused refusal
    by_found (Ok tt) a b = accepted a b

    pub answered_alike :
        answer (checked_with job (book_of job) second) job ≡ answer (checked_with other (book_of other) second) other
    answered_alike =
        let found = checked_with other (book_of other) second in
        ap (λ found. answer found job) found_same ∙ by_found found found_same refl

  renamed :
      (a b : List ℕ) →
      named CoefficientSet.Book (screened_of a second) ≡ named CoefficientSet.Book (screened_of b second) →
      screened_of a second ≡ screened_of b second
  unfolding figures_at
  renamed a b e = ap (named (set_in_use second)) e

  own_ignored : answer_with job second ≡ answer_with other second
  own_ignored =
      answered_alike (λ found job. answer_for found job second) (λ refusal. refl)
      (λ a b.
      let both =
      sym (written_answer job second a is_lent) ∙ ap answer_of same ∙ written_answer other second b is_lent in
      ap Ok (renamed job other (same_answer both)))

factors_alone :
    (job second another : List ℕ) (answer other : Answer) → answer_with job second ≡ Ok answer →
    answer_with job another ≡ Ok other → (answer.factors ≡ other.factors) × (answer.count ≡ other.count)
factors_alone job second another answer other answered other-answered =
    let is = answer_is job second answer answered in
    let other-is = answer_is job another other other-answered in (
      ap (λ a. a.factors) is ∙ sym (ap (λ a. a.factors) other-is),
      ap (λ a. a.count) is ∙ sym (ap (λ a. a.count) other-is),
    )

pub second_set : SecondSetPromise
second_set =
    record {
      first = first;
      second = second_is;
      own_ignored = λ job other second two same passed other-passed.
          own_ignored job other second two same passed other-passed;
      factors = factors_alone;
      factor_call = λ book second accepted fits v list.
          (call_kept second book accepted fits v (length list), list_kept second book accepted fits v list);
    }
