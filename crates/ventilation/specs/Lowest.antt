-- The lowest rate at which the verdict is 'below' (document 02, R-6), with the coefficients in use (R-7).
use Rattle.std.specs.Prelude.{ℕ, ℤ, pos, zero, suc, Bool, true, false, cond, List, [], Option, Some, None}
use Rattle.std.specs.Prelude.{Result, Ok, Err}
use Rattle.refusals.specs.Grounds.{refused_number, Checked}
use Rattle.book.specs.Rates.{max_rate}
use Rattle.coefficients.specs.Sets.{set_in_use, coefficient_in_use}
use Rattle.screening.specs.Job.{concentration_of, book_of}
use Rattle.screening.specs.JobGrounds.{checked_with}
use Rattle.verdict.specs.Verdict.{verdict_at}
use Rattle.screening.specs.Screening.{criterion_of, assessment_at}
use Rattle.verdict.specs.declared.verdict.Verdict.{Verdict}
use Rattle.verdict.specs.declared.verdict.Verdict.TheVariants.{Below, Close, Above}
use Rattle.refusals.specs.declared.Refusal.{Refusal}
use Rattle.ventilation.specs.declared.LowestRate.{LowestRate}

-- Of so many rates from `v` on, the first at which a test holds, or none.
unfoldable pub first_rate : (ℕ → Bool) → ℕ → ℕ → Option ℕ
first_rate test v zero = None
first_rate test v (suc more) = cond (test v) (Some v) (first_rate test (suc v) more)

abbrev pub says_below : Verdict → Bool
says_below Below = true
says_below Close = false
says_below Above = false

-- The verdict on a job at a rate. The job's own rate is ignored.
abbrev pub verdict_on : List ℕ → List ℕ → ℕ → Verdict
verdict_on job second v =
    verdict_at (assessment_at (criterion_of job) (book_of job) (coefficient_in_use (book_of job) second) v)
    (concentration_of job)

-- The first of 0, 1, … 100,000 at which the verdict is 'below'.
abbrev pub lowest_rate : List ℕ → List ℕ → Option ℕ
lowest_rate job second = first_rate (λ v. says_below (verdict_on job second v)) 0 (suc max_rate)

-- The answer names the set in use. A refusal is the whole answer.
abbrev pub lowest_for : Checked → List ℕ → List ℕ → Result LowestRate Refusal
lowest_for (Ok _) job second = Ok (record { rate = lowest_rate job second; set = set_in_use second })
lowest_for (Err refusal) job second = Err refusal

-- The number of an answer, as every caller gets it: the rate,
-- one more than the highest where there is none, or minus the number of the refusal.
abbrev pub no_rate : ℕ
no_rate = suc max_rate

abbrev pub rate_number : Option ℕ → ℕ
rate_number (Some v) = v
rate_number None = no_rate

abbrev pub lowest_number : Result LowestRate Refusal → ℤ
lowest_number (Ok answer) = pos (rate_number answer.rate)
lowest_number (Err refusal) = refused_number refusal

-- The job's own rate is checked with the rest, grounds 1 to 18, and then a second set, where one is lent.
abbrev pub lowest_with : List ℕ → List ℕ → Result LowestRate Refusal
lowest_with job second = lowest_for (checked_with job (book_of job) second) job second

abbrev pub lowest_of : List ℕ → Result LowestRate Refusal
lowest_of job = lowest_with job []
