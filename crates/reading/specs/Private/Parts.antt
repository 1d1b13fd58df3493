-- How the intake joins the two parts of a reading: what its private functions answer. No public contract names these.
use Rattle.std.specs.Prelude.{ℕ, ◌+◌, Result, Ok, Err}
use Rattle.reading.specs.declared.amounts.Medium.{Medium}
use Rattle.reading.specs.declared.error.ReadingError.{ReadingError}
use Rattle.reading.specs.Reading.{through_medium}
use Rattle.reading.specs.Private.Conversion.{capped}

-- An unusable part comes before one that is too large.
abbrev pub sum_of : Result ℕ ReadingError → Result ℕ ReadingError → Result ℕ ReadingError
sum_of (Err ReadingError.Unusable) b = Err ReadingError.Unusable
sum_of (Err ReadingError.TooLarge) (Err error) = Err error
sum_of (Err ReadingError.TooLarge) (Ok n) = Err ReadingError.TooLarge
sum_of (Ok m) (Err error) = Err error
sum_of (Ok m) (Ok n) = capped (m + n)

abbrev pub intake_of_sum : Medium → ℕ → Result ℕ ReadingError → Result ℕ ReadingError
intake_of_sum medium af (Ok n) = capped (through_medium medium af n)
intake_of_sum medium af (Err error) = Err error
