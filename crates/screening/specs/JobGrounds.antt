-- The grounds for refusing a job with its book, in checking order (document 01, grounds 1 to 18; document 02, 23).
use Rattle.std.specs.Prelude.{ℕ, Bool, not, ◌||◌, ◌&&◌, List, [], ◌∷◌, ◌++◌, length, ltb, eqb}
use Rattle.refusals.specs.Grounds.{Ground, ground_of, first_met, Checked}
use Rattle.refusals.specs.declared.Refusal.TheVariants.{JobTooShort, CodeUnknown, RateTooHigh, TargetTooHigh}
use Rattle.refusals.specs.declared.Refusal.TheVariants.{AttenuationOutOfRange, ExposureOutOfRange}
use Rattle.refusals.specs.declared.Refusal.TheVariants.{ReadingUnusable, ConcentrationTooHigh}
use Rattle.book.specs.BookGrounds.{book_grounds}
use Rattle.book.specs.Rates.{rate_too_high}
use Rattle.verdict.specs.Verdict.{max_target}
use Rattle.reading.specs.Reading.{reading_unusable, concentration_too_high, whole_attenuation}
use Rattle.coefficients.specs.SetGrounds.{set_grounds}
use Rattle.screening.specs.Job.{rate, kind, medium, unit, zero_byte, target, attenuation}
use Rattle.screening.specs.Job.{reading_of, for_reading, exposure_of, job_length}
use Rattle.exposure.specs.Exposure.{exposure_out_of_range}

-- 2. Kind, medium or unit is not a listed value, or the job's zero byte isn't zero.
abbrev pub last_kind : ℕ
last_kind = 1

abbrev pub last_medium : ℕ
last_medium = 2

abbrev pub last_unit : ℕ
last_unit = 2

unfoldable pub code_unknown : List ℕ → Bool
code_unknown job =
    ltb last_kind (kind job) || ltb last_medium (medium job) || ltb last_unit (unit job) || not (eqb (zero_byte job) 0)

-- 5. AF exceeds 1,000,000, or the medium is indoor air and AF isn't 1,000,000.
unfoldable pub attenuation_out_of_range : List ℕ → Bool
attenuation_out_of_range job =
    ltb whole_attenuation (attenuation job) || eqb (medium job) 0 && not (eqb (attenuation job) whole_attenuation)

-- 1 to 6: the job's own fields.
abbrev pub field_grounds : List ℕ → List Ground
field_grounds job =
    ground_of JobTooShort (ltb (length job) job_length)
    ∷ ground_of CodeUnknown (code_unknown job)
    ∷ ground_of RateTooHigh (rate_too_high (rate job))
    ∷ ground_of TargetTooHigh (ltb max_target (target job))
    ∷ ground_of AttenuationOutOfRange (attenuation_out_of_range job)
    ∷ ground_of ExposureOutOfRange (exposure_out_of_range (exposure_of job))
    ∷ []

-- 7 and 8: its reading.
abbrev pub reading_grounds : List ℕ → List Ground
reading_grounds job =
    ground_of ReadingUnusable (reading_unusable (reading_of job))
    ∷ ground_of ConcentrationTooHigh (for_reading concentration_too_high job)
    ∷ []

abbrev pub job_grounds : List ℕ → List ℕ → List Ground
job_grounds job book = field_grounds job ++ reading_grounds job ++ book_grounds book

-- With a second set: the job's grounds, then the set's.
abbrev pub grounds_with : List ℕ → List ℕ → List ℕ → List Ground
grounds_with job book second = job_grounds job book ++ set_grounds book second

-- What the checks find.
abbrev pub checked_with : List ℕ → List ℕ → List ℕ → Checked
checked_with job book second = first_met (grounds_with job book second)

abbrev pub checked_job : List ℕ → List ℕ → Checked
checked_job job book = checked_with job book []
