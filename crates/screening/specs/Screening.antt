-- The answer to a whole job, with the coefficients in use (document 02, R-7).
use Rattle.refusals.specs.Grounds.{Checked}
use Rattle.std.specs.Prelude.{ℕ, List, [], replicate, Ok, Err, Result}
use Rattle.refusals.specs.declared.Refusal.{Refusal}
use Rattle.book.specs.Limits.{max_members}
use Rattle.book.specs.Fields.{members, scale_of, working_level_divisor}
use Rattle.coefficients.specs.Sets.{set_in_use, coefficient_in_use}
use Rattle.balance.specs.Chain.{chain_of}
use Rattle.balance.specs.Balance.{reported_factor}
use Rattle.balance.specs.Factors.{factor_at, factor_list}
use Rattle.screening.specs.Job.{rate, kind, kind_of, target, exposure_of, concentration_of, book_of}
use Rattle.exposure.specs.Totals.{X, Y}
use Rattle.screening.specs.JobGrounds.{checked_with}
use Rattle.verdict.specs.Verdict.{Assessment, assessment_by, verdict_at, level}
use Rattle.verdict.specs.WorkingLevels.{alpha_sum, working_levels}
use Rattle.exposure.specs.declared.groups.Exposure.{Exposure}
use Rattle.exposure.specs.declared.kind.Kind.{Kind}
use Rattle.screening.specs.declared.job.Answer.{Answer}
use Rattle.screening.specs.declared.job.Figures.{Figures}
use Rattle.verdict.specs.declared.verdict.Criterion.{Criterion}

-- What a room is judged by.
abbrev pub criterion_for : Kind → Exposure → ℕ → Criterion
criterion_for kind e target = record { kind = kind; x = X kind e; y = Y kind e; target = target }

-- And a job's room.
abbrev pub criterion_of : List ℕ → Criterion
criterion_of job = criterion_for (kind_of (kind job)) (exposure_of job) (target job)

-- What the verdict on a book is reached on, with the coefficients in use, at a rate.
abbrev pub assessment_at : Criterion → List ℕ → (ℕ → ℕ → ℕ) → ℕ → Assessment
assessment_at by book coefficient v = assessment_by by (members book) coefficient (factor_at book v)

-- The sum over i ≥ 1 of w × factor, at a rate.
abbrev pub alpha_at : List ℕ → (ℕ → ℕ → ℕ) → ℕ → ℕ
alpha_at book coefficient v = alpha_sum (members book) coefficient (factor_at book v)

-- Fm's divisor: the same with every member's rate 0.
abbrev pub alpha_at_rest : List ℕ → (ℕ → ℕ → ℕ) → ℕ
alpha_at_rest book coefficient =
    alpha_sum (members book) coefficient (reported_factor (scale_of book) (chain_of book) (λ i. 0))

-- At a rate and a concentration. W is the book's, whichever set is in use.
unfoldable pub figures_at : Criterion → List ℕ → List ℕ → ℕ → ℕ → Figures
figures_at by book second v C =
    let coefficient = coefficient_in_use book second in
    record {
      set = set_in_use second;
      concentration = C;
      verdict = verdict_at (assessment_at by book coefficient v) C;
      level = level (assessment_at by book coefficient v);
      working =
          working_levels (alpha_at book coefficient v) (alpha_at_rest book coefficient) C (working_level_divisor book);
    }

-- The factors stand as the factor call leaves them in a list of zeros.
abbrev pub screened_at : Criterion → List ℕ → List ℕ → ℕ → ℕ → Answer
screened_at by book second v C =
    record {
      figures = figures_at by book second v C;
      factors = factor_list v book (replicate max_members 0);
      count = members book;
    }

-- An accepted job has its figures and factors; a refusal returns the refusal alone.
abbrev pub answer_for : Checked → List ℕ → List ℕ → Result Answer Refusal
answer_for (Ok _) job second =
    Ok (screened_at (criterion_of job) (book_of job) second (rate job) (concentration_of job))
answer_for (Err refusal) job second = Err refusal

-- A second set may be lent beside the job.
abbrev pub answer_with : List ℕ → List ℕ → Result Answer Refusal
answer_with job second = answer_for (checked_with job (book_of job) second) job second

abbrev pub answer_of : List ℕ → Result Answer Refusal
answer_of job = answer_with job []
