-- The search on what the checks have left of a job is the search on the job.
use Rattle.std.specs.Prelude.{Option, Ok}
use Prim.Native.Nat.{ℕ, suc}
use mathlib.Core.Path.{◌≡◌, refl, ap, sym, ◌∙◌}
use mathlib.Core.List.{List}
use Rattle.book.specs.Rates.{max_rate}
use Rattle.coefficients.specs.Sets.{set_in_use, coefficient_in_use}
use Rattle.coefficients.specs.declared.set.CoefficientSet.{CoefficientSet}
use Rattle.screening.specs.Job.{book_of}
use Rattle.screening.specs.JobGrounds.{checked_with}
use Rattle.screening.specs.Admission.{input_of}
use Rattle.screening.specs.declared.admission.ScreeningInput.{ScreeningInput}
use Rattle.ventilation.specs.Lowest.{first_rate, lowest_for, lowest_with}
use Rattle.ventilation.specs.Private.BelowAt.{below_at}
use Rattle.ventilation.specs.declared.LowestRate.{LowestRate}

-- The answer by what is screened on, for a book and the numbers in use.
abbrev sought : ScreeningInput → List ℕ → (ℕ → ℕ → ℕ) → CoefficientSet → LowestRate
sought input book in_use set =
    record { rate = first_rate (below_at input.by book in_use input.concentration) 0 (suc max_rate); set = set }

pub searched_is :
    (job second : List ℕ) {input : ScreeningInput} {rate : Option ℕ} {set : CoefficientSet} →
    checked_with job (book_of job) second ≡ Ok tt → input ≡ input_of job →
    rate ≡ first_rate (below_at input.by (book_of job) (coefficient_in_use (book_of job) second) input.concentration) 0
    (suc max_rate) → set ≡ set_in_use second → Ok (record { rate = rate; set = set }) ≡ lowest_with job second
searched_is job second passed is found named =
    let in_use = coefficient_in_use (book_of job) second in
    rw (found, named) refl
    ∙ ap (λ r. Ok (sought r (book_of job) in_use (set_in_use second))) is
    ∙ ap (λ found. lowest_for found job second) (sym passed)
