-- What an answer by a second set says (document 02, R-7).
use Rattle.std.specs.Prelude.{ℕ, ◌≡◌, false, List, ◌++◌, length, take, Ok}
use Rattle.book.specs.BookGrounds.{Accepted}
use Rattle.coefficients.specs.Sets.{set_in_use, set_number}
use Rattle.coefficients.specs.SetGrounds.{second_set_out_of_range}
use Rattle.coefficients.specs.WrittenOver.{written_over}
use Rattle.coefficients.specs.declared.set.CoefficientSet.{CoefficientSet}
use Rattle.balance.specs.Factors.{factor_answer, factor_list}
use Rattle.screening.specs.Job.{job_length, book_of}
use Rattle.screening.specs.JobGrounds.{checked_job}
use Rattle.screening.specs.Screening.{answer_with, answer_of}
use Rattle.screening.specs.declared.job.Answer.{Answer}
use Rattle.screening.specs.declared.job.Figures.{Figures}

-- The job with the second set written over its book's own.
abbrev pub with_set : List ℕ → List ℕ → List ℕ
with_set second job = take job_length job ++ written_over second (book_of job)

-- An answer under another set's name.
abbrev pub figures_named : CoefficientSet → Figures → Figures
figures_named set figures =
    record {
      set = set;
      concentration = figures.concentration;
      verdict = figures.verdict;
      level = figures.level;
      working = figures.working;
    }

abbrev pub named : CoefficientSet → Answer → Answer
named set answer =
    record { figures = figures_named set answer.figures; factors = answer.factors; count = answer.count }

pub record SecondSetPromise : Type 0 where
  -- an answer with 1 is the one without a second set
  pub first :
      (job second : List ℕ) (answer : Answer) → answer_with job second ≡ Ok answer →
      set_number answer.figures.set ≡ 1 → answer_of job ≡ Ok answer
  -- an answer with 2 is, but for that name, the one for the book with the second set written over its own
  pub second :
      (job second : List ℕ) (answer : Answer) → answer_with job second ≡ Ok answer →
      set_number answer.figures.set ≡ 2 → answer_of (with_set second job) ≡ Ok (named CoefficientSet.Book answer)
  -- so changing the book's own within limits alters nothing in it
  pub own_ignored :
      (job other second : List ℕ) → set_number (set_in_use second) ≡ 2 → with_set second job ≡ with_set second other →
      checked_job job (book_of job) ≡ Ok tt → checked_job other (book_of other) ≡ Ok tt →
      answer_with job second ≡ answer_with other second
  -- factors depend on neither, in an answer
  pub factors :
      (job second another : List ℕ) (answer other : Answer) → answer_with job second ≡ Ok answer →
      answer_with job another ≡ Ok other → (answer.factors ≡ other.factors) × (answer.count ≡ other.count)
  -- and in the factor call
  pub factor_call :
      (book second : List ℕ) → Accepted book → second_set_out_of_range book second ≡ false → (v : ℕ) (list : List ℕ) →
      (factor_answer v (written_over second book) (length list) ≡ factor_answer v book (length list))
      × (factor_list v (written_over second book) list ≡ factor_list v book list)
