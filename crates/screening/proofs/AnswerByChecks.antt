-- From what the checks of a job find to what they leave of it, and from that to its answer: a refusal alone, or the
-- figures by the numbers that its fields hold.
use Rattle.std.specs.Prelude.{Ok, Err, Result}
use Prim.Native.Nat.{ℕ, ◌-◌}
use native.Mathlib.Nat.{le_of_eq}
use native.Mathlib.Omega.{arith}
use mathlib.Core.Path.{◌≡◌, refl, ap, sym, ◌∙◌}
use mathlib.Core.List.{List}
use lib.ListN.{length, take, length-drop}
use lib.Seq.{take_all}
use Rattle.refusals.specs.Grounds.{first_met, or_else, Checked}
use Rattle.book.specs.BookGrounds.{book_grounds}
use Rattle.coefficients.specs.SetGrounds.{set_grounds}
use Rattle.refusals.specs.declared.Refusal.{Refusal}
use Rattle.screening.specs.Job.{intake_of, job_length, book_of}
use Rattle.screening.specs.JobGrounds.{checked_with, field_grounds}
use Rattle.screening.specs.Screening.{screened_at, answer_for, answer_with}
use Rattle.screening.specs.Admission.{input_of, admission_for, admission_with, admission_of}
use Rattle.screening.specs.Screenable.{Screenable}
use Rattle.screening.specs.declared.admission.ScreeningInput.{ScreeningInput}
use Rattle.screening.specs.declared.job.Answer.{Answer}
use Rattle.screening.proofs.JobChecks.{refused_by_fields, found_by_book, JobPasses, job_passes}

-- The part of a job after its own bytes, as the code lends it: as many bytes as are left are all that are left.
pub lent_book : (job : List ℕ) → take (length job - job_length) (book_of job) ≡ book_of job
lent_book job = take_all (length job - job_length) (book_of job) (le_of_eq (length-drop job_length job))

-- A job whose own fields refuse it is refused, whatever book follows and whatever is lent beside it.
pub refused_by_fields_is :
    (job second : List ℕ) {found : Checked} {refusal : Refusal} → found ≡ first_met (field_grounds job) →
    found ≡ Err refusal → Err refusal ≡ admission_of job second
refused_by_fields_is job second told refused =
    ap (λ result. admission_for result job) (sym (refused_by_fields job (book_of job) second (sym told ∙ refused)))

-- One whose book refuses it is refused, whatever is lent beside it.
pub refused_by_book_is :
    (job book second : List ℕ) {c : ℕ} {found : Checked} {refusal : Refusal} → first_met (field_grounds job) ≡ Ok tt →
    intake_of job ≡ Ok c → found ≡ first_met (book_grounds book) → found ≡ Err refusal →
    Err refusal ≡ admission_with job book second
refused_by_book_is job book second passed read told refused =
    ap (λ result. admission_for result job)
    (sym (found_by_book job book second passed read
    ∙ ap (λ of_book. or_else of_book (first_met (set_grounds book second))) (sym told ∙ refused)))

-- What an admission says of the checks.
refused_found :
    (found : Checked) (job : List ℕ) {refusal : Refusal} → admission_for found job ≡ Err refusal → found ≡ Err refusal
refused_found (Ok tt) job e = absurd (let z : ◌≡◌ {A = ℕ} 0 1 = cc in omega arith)
refused_found (Err r) job e = cc

admitted_found :
    (found : Checked) (job : List ℕ) {input : ScreeningInput} → admission_for found job ≡ Ok input →
    (found ≡ Ok tt) × (input ≡ input_of job)
admitted_found (Ok tt) job e = (refl, cc)
admitted_found (Err r) job e = absurd (let z : ◌≡◌ {A = ℕ} 0 1 = cc in omega arith)

module _
    (job second : List ℕ) {admission : Result ScreeningInput Refusal} (told : admission ≡ admission_of job second) where
  abbrev found : Checked
  found = checked_with job (book_of job) second

  pub refused : {refusal : Refusal} → admission ≡ Err refusal → found ≡ Err refusal
  refused is = refused_found found job (sym told ∙ is)

  pub refused_answer : {refusal : Refusal} → admission ≡ Err refusal → Err refusal ≡ answer_with job second
  refused_answer is = ap (λ result. answer_for result job second) (sym (refused is))

  module _ {input : ScreeningInput} (is : admission ≡ Ok input) where
    pub passed : found ≡ Ok tt
    passed = (admitted_found found job (sym told ∙ is)).0

    pub input_is : input ≡ input_of job
    input_is = (admitted_found found job (sym told ∙ is)).1

    pub passes : JobPasses job (book_of job) second
    passes = job_passes job (book_of job) second passed

    pub screenable : Screenable input.by input.rate input.concentration (book_of job)
    screenable =
        rw input_is
        (record {
          target = passes.fields.target;
          rate = passes.fields.rate;
          concentration = passes.reading.within;
          accepted = passes.accepted;
        })

    pub admitted_answer :
        {answer : Answer} →
        answer ≡ screened_at input.by (book_of job) second input.rate input.concentration →
        Ok answer ≡ answer_with job second
    admitted_answer answer =
        ap Ok answer
        ∙ ap (λ r. Ok (screened_at r.by (book_of job) second r.rate r.concentration)) input_is
        ∙ ap (λ result. answer_for result job second) (sym passed)
