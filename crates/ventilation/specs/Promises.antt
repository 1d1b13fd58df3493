-- What is promised of the lowest rate.
use Rattle.std.specs.Prelude.{ℕ, pos, ◌≤◌, ◌<◌, ◌≡◌, List, Some, Result, Ok}
use Rattle.book.specs.Rates.{max_rate}
use Rattle.coefficients.specs.Sets.{set_in_use, set_number}
use Rattle.coefficients.specs.declared.set.CoefficientSet.{CoefficientSet}
use Rattle.screening.specs.Job.{book_of}
use Rattle.screening.specs.JobGrounds.{checked_with, checked_job}
use Rattle.screening.specs.SecondSet.{with_set}
use Rattle.verdict.specs.declared.verdict.Verdict.TheVariants.{Below}
use Rattle.ventilation.specs.Lowest.{verdict_on, no_rate, lowest_number, lowest_with, lowest_of}
use Rattle.ventilation.specs.JobWithRate.{with_rate, Judged}
use Rattle.refusals.specs.declared.Refusal.{Refusal}
use Rattle.ventilation.specs.declared.LowestRate.{LowestRate}

-- What the answer to a job says of the verdicts on it, by its number, with a second set or without one.
pub record LowestPromise (job second : List ℕ) (answer : Result LowestRate Refusal) : Type 0 where
  -- a rate that is answered is within the limit
  pub rate_within : (lowest : LowestRate) (v : ℕ) → answer ≡ Ok lowest → lowest.rate ≡ Some v → v ≤ max_rate
  -- its number is a rate's, or none's, unless it is a refusal's
  pub within : (v : ℕ) → lowest_number answer ≡ pos v → v ≤ no_rate
  -- where it is a rate's the verdict at that rate is 'below'
  pub is_below : (v : ℕ) → lowest_number answer ≡ pos v → v ≤ max_rate → verdict_on job second v ≡ Below
  -- at every lower rate it is another
  pub lowest : (v w : ℕ) → lowest_number answer ≡ pos v → v ≤ max_rate → w < v → ¬ (verdict_on job second w ≡ Below)
  -- at every higher one it is 'below' still
  pub stays_below :
      (v w : ℕ) → lowest_number answer ≡ pos v → v ≤ max_rate → v ≤ w → w ≤ max_rate → verdict_on job second w ≡ Below
  -- where it is none's the verdict is 'below' nowhere
  pub nowhere : lowest_number answer ≡ pos no_rate → (w : ℕ) → w ≤ max_rate → ¬ (verdict_on job second w ≡ Below)

pub record VentilationPromises : Type 0 where
  pub lowest : (job second : List ℕ) → LowestPromise job second (lowest_with job second)
  -- in bytes: a job that passes its checks passes them with any other rate written into it,
  -- and the verdict is then that at this rate
  pub at_rate :
      (job second : List ℕ) (w : ℕ) → checked_with job (book_of job) second ≡ Ok tt → w ≤ max_rate →
      Judged (with_rate w job) second (verdict_on job second w)
  -- so where the answer is v, the verdict on the job at v is 'below'
  pub at_answer :
      (job second : List ℕ) (v : ℕ) → lowest_number (lowest_with job second) ≡ pos v → v ≤ max_rate →
      Judged (with_rate v job) second Below
  -- and the job's own rate is otherwise ignored
  pub own_rate_ignored :
      (job second : List ℕ) (w : ℕ) → checked_with job (book_of job) second ≡ Ok tt → w ≤ max_rate →
      lowest_with (with_rate w job) second ≡ lowest_with job second
  -- an answer with 1 is the one without a second set
  pub first_set :
      (job second : List ℕ) (answer : LowestRate) → lowest_with job second ≡ Ok answer →
      set_number answer.set ≡ 1 → lowest_of job ≡ Ok answer
  -- one with 2 is, but for that name, the one for the book with the second set written over its own
  pub second_set :
      (job second : List ℕ) (answer : LowestRate) → lowest_with job second ≡ Ok answer → set_number answer.set ≡ 2 →
      lowest_of (with_set second job) ≡ Ok (record { rate = answer.rate; set = CoefficientSet.Book })
  -- so changing the book's own within limits alters nothing in it
  pub own_ignored :
      (job other second : List ℕ) → set_number (set_in_use second) ≡ 2 → with_set second job ≡ with_set second other →
      checked_job job (book_of job) ≡ Ok tt → checked_job other (book_of other) ≡ Ok tt →
      lowest_with job second ≡ lowest_with other second
