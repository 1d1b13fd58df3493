-- What the checks of a job and a second set leave: what its room is screened on, or the refusal alone.
use Rattle.refusals.specs.declared.Refusal.{Refusal}
use Rattle.refusals.specs.Grounds.{Checked}
use Rattle.std.specs.Prelude.{ℕ, List, Ok, Err, Result}
use Rattle.screening.specs.Job.{rate, concentration_of, book_of}
use Rattle.screening.specs.JobGrounds.{checked_with}
use Rattle.screening.specs.Screening.{criterion_of}
use Rattle.screening.specs.declared.admission.ScreeningInput.{ScreeningInput}

abbrev pub input_of : List ℕ → ScreeningInput
input_of job = record { by = criterion_of job; rate = rate job; concentration = concentration_of job }

abbrev pub admission_for : Checked → List ℕ → Result ScreeningInput Refusal
admission_for (Ok _) job = Ok (input_of job)
admission_for (Err refusal) job = Err refusal

abbrev pub admission_with : List ℕ → List ℕ → List ℕ → Result ScreeningInput Refusal
admission_with job book second = admission_for (checked_with job book second) job

abbrev pub admission_of : List ℕ → List ℕ → Result ScreeningInput Refusal
admission_of job second = admission_with job (book_of job) second
