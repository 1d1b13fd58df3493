-- What the checks of a job find, part by part: of lists joined, the earlier list's grounds come first. What passing
-- them says of its numbers: no ground is met, so each condition is false, and a false comparison gives an order.
use Rattle.std.specs.Prelude.{Ok, Err}
use Prim.Native.Nat.{ℕ, ◌≤◌}
use mathlib.Core.Path.{◌≡◌, refl, ap, sym, ◌∙◌}
use mathlib.Core.Bool.{Bool, true, false, cond}
use mathlib.Core.List.{List, [], ◌∷◌, ◌++◌}
use lib.Dec.{ltb}
use lib.ListN.{length}
use borrow.Author.Tests.{ltb-false}
use Rattle.refusals.specs.Grounds.{ground_of, first_met, or_else, Checked}
use Rattle.refusals.specs.declared.Refusal.{Refusal}
use Rattle.refusals.proofs.FirstMet.{first_of_both, not_met, both_pass}
use Rattle.book.specs.BookGrounds.{book_grounds, Accepted}
use Rattle.coefficients.specs.SetGrounds.{set_grounds}
use Rattle.book.specs.Rates.{max_rate}
use Rattle.reading.specs.Reading.{unit_of, medium_of, reading_unusable, concentration_too_high}
use Rattle.reading.specs.Reading.{max_concentration, intake_checked}
use Rattle.std.specs.Prelude.{Ok, Err}
use Rattle.reading.specs.declared.error.ReadingError.{ReadingError}
use Rattle.reading.proofs.PartsJoined.{concentration_within}
use Rattle.screening.specs.Job.{rate, medium, unit, target, attenuation, reading_of, for_reading}
use Rattle.screening.specs.Job.{concentration_of, intake_of, exposure_of, job_length}
use Rattle.exposure.specs.Exposure.{exposure_out_of_range}
use Rattle.verdict.specs.Verdict.{max_target}
use Rattle.screening.specs.JobGrounds.{code_unknown, attenuation_out_of_range}
use Rattle.screening.specs.JobGrounds.{checked_with, checked_job, job_grounds, field_grounds, reading_grounds}

-- What the checks of a book and of a second set find, and before them that of the reading.
abbrev pub book_found : List ℕ → List ℕ → Checked
book_found book second = or_else (first_met (book_grounds book)) (first_met (set_grounds book second))

abbrev pub later_found : List ℕ → List ℕ → List ℕ → Checked
later_found job book second = or_else (first_met (reading_grounds job)) (book_found book second)

pub checked_by_parts :
    (job book second : List ℕ)
    → checked_with job book second ≡ or_else (first_met (field_grounds job)) (later_found job book second)
checked_by_parts job book second =
    first_of_both (field_grounds job) (reading_grounds job ++ (book_grounds book ++ set_grounds book second))
    ∙ ap (or_else (first_met (field_grounds job)))
    (first_of_both (reading_grounds job) (book_grounds book ++ set_grounds book second)
    ∙ ap (or_else (first_met (reading_grounds job))) (first_of_both (book_grounds book) (set_grounds book second)))

-- A reading's grounds are those that its intake answers.
of_intake :
    (unusable high : Bool) (c : ℕ)
    → intake_checked (cond unusable (Err ReadingError.Unusable) (cond high (Err ReadingError.TooLarge) (Ok c)))
    ≡ first_met (ground_of Refusal.ReadingUnusable unusable ∷ ground_of Refusal.ConcentrationTooHigh high ∷ [])
of_intake true high c = refl
of_intake false true c = refl
of_intake false false c = refl

pub reading_checked : (job : List ℕ) → intake_checked (intake_of job) ≡ first_met (reading_grounds job)
reading_checked job =
    of_intake (reading_unusable (reading_of job)) (for_reading concentration_too_high job) (concentration_of job)

-- After the job's own fields and its reading the book's checks come, and then the second set's.
pub found_by_book :
    (job book second : List ℕ) {c : ℕ} → first_met (field_grounds job) ≡ Ok tt → intake_of job ≡ Ok c →
    checked_with job book second ≡ book_found book second
found_by_book job book second passed read =
    checked_by_parts job book second
    ∙ ap (λ first. or_else first (later_found job book second)) passed
    ∙ ap (λ reading. or_else reading (book_found book second)) (sym (reading_checked job) ∙ ap intake_checked read)

-- Where a job passes its checks, a second set's are all that is left.
pub found_by_set :
    (job book second : List ℕ) → checked_job job book ≡ Ok tt →
    checked_with job book second ≡ first_met (set_grounds book second)
found_by_set job book second passed =
    first_of_both (job_grounds job book) (set_grounds book second)
    ∙ ap (λ found. or_else found (first_met (set_grounds book second))) passed

pub refused_by_fields :
    (job book second : List ℕ) {refusal : Refusal} → first_met (field_grounds job) ≡ Err refusal →
    checked_with job book second ≡ Err refusal
refused_by_fields job book second refused =
    checked_by_parts job book second ∙ ap (λ first. or_else first (later_found job book second)) refused

pub record FieldsPass (job : List ℕ) : Type 0 where
  pub long : job_length ≤ length job
  pub rate : rate job ≤ max_rate
  pub target : target job ≤ max_target
  pub exposure : exposure_out_of_range (exposure_of job) ≡ false

pub fields_pass : (job : List ℕ) → first_met (field_grounds job) ≡ Ok tt → FieldsPass job
fields_pass job passed =
    let g1 = not_met (ltb (length job) job_length) _ _ passed in
    let g2 = not_met (code_unknown job) _ _ g1.1 in
    let g3 = not_met (ltb max_rate (rate job)) _ _ g2.1 in
    let g4 = not_met (ltb max_target (target job)) _ _ g3.1 in
    let g5 = not_met (attenuation_out_of_range job) _ _ g4.1 in
    let g6 = not_met (exposure_out_of_range (exposure_of job)) _ _ g5.1 in
    record {
      long = ltb-false (length job) job_length g1.0;
      rate = ltb-false max_rate (rate job) g3.0;
      target = ltb-false max_target (target job) g4.0;
      exposure = g6.0;
    }

-- A reading that passes has a concentration, within its limit.
pub record ReadingPasses (job : List ℕ) : Type 0 where
  pub is : intake_of job ≡ Ok (concentration_of job)
  pub within : concentration_of job ≤ max_concentration

in_intake :
    (unusable high : Bool) (c : ℕ) → unusable ≡ false → high ≡ false →
    cond unusable (Err ReadingError.Unusable) (cond high (Err ReadingError.TooLarge) (Ok c)) ≡ Ok c
in_intake unusable high c u h = rw (u, h)

pub reading_passes : (job : List ℕ) → first_met (reading_grounds job) ≡ Ok tt → ReadingPasses job
reading_passes job passed =
    let g7 = not_met (reading_unusable (reading_of job)) _ _ passed in
    let g8 = not_met (for_reading concentration_too_high job) _ _ g7.1 in
    record {
      is =
          in_intake (reading_unusable (reading_of job)) (for_reading concentration_too_high job)
          (concentration_of job) g7.0 g8.0;
      within =
          concentration_within (unit_of (unit job)) (medium_of (medium job)) (attenuation job) (reading_of job) g8.0;
    }

pub record JobPasses (job book second : List ℕ) : Type 0 where
  pub fields : FieldsPass job
  pub reading : ReadingPasses job
  pub accepted : Accepted book
  pub set : first_met (set_grounds book second) ≡ Ok tt

pub job_passes : (job book second : List ℕ) → checked_with job book second ≡ Ok tt → JobPasses job book second
job_passes job book second passed =
    let parts = both_pass _ _ (sym (checked_by_parts job book second) ∙ passed) in
    let later = both_pass _ _ parts.1 in
    let last = both_pass _ _ later.1 in
    record {
      fields = fields_pass job parts.0;
      reading = reading_passes job later.0;
      accepted = last.0;
      set = last.1;
    }
