-- The fields of a job (document 01, "Book and job").
use Rattle.std.specs.Prelude.{ℕ, zero, suc, ◌+◌, List, drop, Result}
use Rattle.std.specs.Float.Ieee.{of_bits}
use Rattle.std.specs.Float.{binary64}
use Rattle.numbers.specs.Bytes.{u8_at, u16_at, u32_at, u64_at}
use Rattle.book.specs.Fields.{longest_book}
use Rattle.reading.specs.Reading.{unit_of, medium_of, concentration, intake_answer}
use Rattle.reading.specs.declared.error.ReadingError.{ReadingError}
use Rattle.reading.specs.declared.amounts.Unit.{Unit}
use Rattle.reading.specs.declared.amounts.Medium.{Medium}
use Rattle.reading.specs.declared.amounts.Reading.{Reading}
use Rattle.exposure.specs.declared.groups.Group.{Group}
use Rattle.exposure.specs.declared.groups.Exposure.{Exposure}
use Rattle.exposure.specs.declared.kind.Kind.{Kind}

-- The rate v stands first, in four bytes; it is in hundredths of an air change per hour.
abbrev pub rate_length : ℕ
rate_length = 4

abbrev pub rate : List ℕ → ℕ
rate job = u32_at job 0

-- 0 risk, 1 dose.
abbrev pub kind : List ℕ → ℕ
kind job = u8_at job 4

abbrev pub kind_of : ℕ → Kind
kind_of zero = Kind.Risk
kind_of (suc code) = Kind.Dose

-- 0 indoor air, 1 soil gas, 2 groundwater.
abbrev pub medium : List ℕ → ℕ
medium job = u8_at job 5

-- 0 pCi/L, 1 pCi/m³, 2 Bq/m³.
abbrev pub unit : List ℕ → ℕ
unit job = u8_at job 6

abbrev pub zero_byte : List ℕ → ℕ
zero_byte job = u8_at job 7

-- Billionths of risk or thousandths of mrem per year.
abbrev pub target : List ℕ → ℕ
target job = u32_at job 8

-- AF, in millionths.
abbrev pub attenuation : List ℕ → ℕ
attenuation job = u32_at job 12

abbrev pub reading_of : List ℕ → Reading
reading_of job = record { value = of_bits binary64 (u64_at job 16); uncertainty = of_bits binary64 (u64_at job 24) }

-- What a definition says of the job's reading, in its unit and its medium, with its attenuation.
abbrev pub for_reading : {A : Type 0} → (Unit → Medium → ℕ → Reading → A) → List ℕ → A
for_reading says job = says (unit_of (unit job)) (medium_of (medium job)) (attenuation job) (reading_of job)

-- C, and what the intake of the reading answers.
abbrev pub concentration_of : List ℕ → ℕ
concentration_of job = for_reading concentration job

abbrev pub intake_of : List ℕ → Result ℕ ReadingError
intake_of job = for_reading intake_answer job

-- A group is four u16: EF, ED, ET, IRA. ET is in quarter hours.
abbrev pub group_at : List ℕ → ℕ → Group
group_at job at =
    record {
      days = u16_at job at;
      years = u16_at job (at + 2);
      quarter_hours = u16_at job (at + 4);
      breathing = u16_at job (at + 6);
    }

abbrev pub exposure_of : List ℕ → Exposure
exposure_of job = record { child = group_at job 32; adult = group_at job 40 }

abbrev pub job_length : ℕ
job_length = 48

-- The most bytes that an accepted job has with its book; one more is all that a program need read of an input.
abbrev pub longest_job : ℕ
longest_job = job_length + longest_book

-- The chain book follows the job.
abbrev pub book_of : List ℕ → List ℕ
book_of job = drop job_length job
