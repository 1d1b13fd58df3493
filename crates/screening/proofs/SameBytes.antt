-- Two jobs whose bytes from the kind on are the same have the same fields but for the rate. So they have the same
-- checks but for the two that read the length and the rate.
use Prim.Native.Nat.{ℕ, ◌+◌, ◌-◌, ◌≤◌, ◌<◌}
use native.Mathlib.Omega.{arith}
use mathlib.Core.Path.{◌≡◌, ap, ap₂, sym, ◌∙◌}
use mathlib.Core.List.{List, [], ◌∷◌}
use lib.Dec.{ltb}
use lib.ListN.{length, get_or, drop}
use lib.Seq.{get_or-drop, drop-drop}
use Rattle.refusals.specs.Grounds.{ground_of, first_met, or_else}
use Rattle.refusals.specs.declared.Refusal.TheVariants.{ReadingUnusable, ConcentrationTooHigh}
use Rattle.numbers.specs.Bytes.{u16_at, u32_at, u64_at}
use Rattle.numbers.proofs.AlikeBytes.{Alike, u16_alike, u32_alike, u64_alike}
use Rattle.book.specs.Rates.{max_rate}
use Rattle.reading.specs.Reading.{unit_of, medium_of, reading_unusable, concentration, concentration_too_high}
use Rattle.reading.specs.declared.amounts.Unit.{Unit}
use Rattle.reading.specs.declared.amounts.Medium.{Medium}
use Rattle.reading.specs.declared.amounts.Reading.{Reading}
use Rattle.screening.specs.Job.{rate_length, rate, kind, kind_of, medium, unit, target, attenuation, job_length}
use Rattle.screening.specs.Job.{book_of, reading_of, for_reading, concentration_of, group_at, exposure_of}
use Rattle.screening.specs.JobGrounds.{code_unknown, attenuation_out_of_range}
use Rattle.screening.specs.JobGrounds.{checked_with, field_grounds, reading_grounds}
use Rattle.screening.specs.Screening.{criterion_for, criterion_of}
use Rattle.verdict.specs.declared.verdict.Criterion.{Criterion}
use Rattle.screening.proofs.JobChecks.{checked_by_parts, book_found}

pub record SameFields (a b : List ℕ) : Type 0 where
  pub byte : (k : ℕ) → rate_length ≤ k → k < job_length → get_or a k 0 ≡ get_or b k 0

module _ {a b : List ℕ} (same : SameFields a b) where
  alike : (k size : ℕ) → rate_length ≤ k → k + size ≤ job_length → Alike a k b k size
  alike k size low high = record { byte = λ r l. same.byte (k + r) (omega arith) (omega arith) }

  u16_same : (k : ℕ) → rate_length ≤ k → k + 2 ≤ job_length → u16_at a k ≡ u16_at b k
  u16_same k low high = u16_alike (alike k 2 low high)

  u32_same : (k : ℕ) → rate_length ≤ k → k + 4 ≤ job_length → u32_at a k ≡ u32_at b k
  u32_same k low high = u32_alike (alike k 4 low high)

  u64_same : (k : ℕ) → rate_length ≤ k → k + 8 ≤ job_length → u64_at a k ≡ u64_at b k
  u64_same k low high = u64_alike (alike k 8 low high)

  pub codes_same : code_unknown a ≡ code_unknown b
  unfolding code_unknown
  codes_same =
      rw (
        same.byte 4 (omega arith) (omega arith),
        same.byte 5 (omega arith) (omega arith),
        same.byte 6 (omega arith) (omega arith),
        same.byte 7 (omega arith) (omega arith),
      )

  pub attenuation_same : attenuation_out_of_range a ≡ attenuation_out_of_range b
  unfolding attenuation_out_of_range
  attenuation_same = rw (same.byte 5 (omega arith) (omega arith), u32_same 12 (omega arith) (omega arith))

  pub target_same : target a ≡ target b
  target_same = u32_same 8 (omega arith) (omega arith)

  group_same : (k : ℕ) → rate_length ≤ k → k + 8 ≤ job_length → group_at a k ≡ group_at b k
  group_same k low l =
      rw (
        u16_same k low (omega arith),
        u16_same (k + 2) (omega arith) (omega arith),
        u16_same (k + 4) (omega arith) (omega arith),
        u16_same (k + 6) (omega arith) (omega arith),
      )

  pub exposure_same : exposure_of a ≡ exposure_of b
  exposure_same = rw (group_same 32 (omega arith) (omega arith), group_same 40 (omega arith) (omega arith))

  pub criterion_same : criterion_of a ≡ criterion_of b
  criterion_same =
      ap₂ (λ code e. criterion_for (kind_of code) e (target a)) (same.byte 4 (omega arith) (omega arith)) exposure_same
      ∙ ap (criterion_for (kind_of (kind b)) (exposure_of b)) target_same

  reading_same : reading_of a ≡ reading_of b
  reading_same = rw (u64_same 16 (omega arith) (omega arith), u64_same 24 (omega arith) (omega arith))

  pub for_reading_same : {A : Type 0} (says : Unit → Medium → ℕ → Reading → A) → for_reading says a ≡ for_reading says b
  for_reading_same says =
      ap₂
      (λ u m. says (unit_of u) (medium_of m) (attenuation a) (reading_of a))
      (same.byte 6 (omega arith) (omega arith))
      (same.byte 5 (omega arith) (omega arith))
      ∙ ap₂ (says (unit_of (unit b)) (medium_of (medium b))) (u32_same 12 (omega arith) (omega arith)) reading_same

  pub reading_found_same : first_met (reading_grounds a) ≡ first_met (reading_grounds b)
  reading_found_same =
      ap₂
      (λ unusable high. first_met (ground_of ReadingUnusable unusable ∷ ground_of ConcentrationTooHigh high ∷ []))
      (ap reading_unusable reading_same)
      (for_reading_same concentration_too_high)

  pub fields_found_same :
      ltb (length a) job_length ≡ ltb (length b) job_length → ltb max_rate (rate a) ≡ ltb max_rate (rate b) →
      first_met (field_grounds a) ≡ first_met (field_grounds b)
  fields_found_same short fast = rw (short, codes_same, fast, target_same, attenuation_same, exposure_same)

-- Two jobs that begin with the same bytes, the rate's among them.
module _ (a b : List ℕ) (byte : (k : ℕ) → k < job_length → get_or a k 0 ≡ get_or b k 0) where
  pub start_same : SameFields a b
  start_same = record { byte = λ k low high. byte k high }

  pub rate_same : rate a ≡ rate b
  rate_same = u32_alike {k = 0} {j = 0} (record { byte = λ r l. byte (0 + r) (omega arith) })

-- Two jobs that differ in the rate alone.
module _ (a b : List ℕ) (same : drop rate_length a ≡ drop rate_length b) where
  byte_same : (k : ℕ) → rate_length ≤ k → get_or a k 0 ≡ get_or b k 0
  byte_same k low =
      let at : rate_length + (k - rate_length) ≡ k = omega arith in
      let byte : (l : List ℕ) → get_or (drop rate_length l) (k - rate_length) 0 ≡ get_or l k 0 =
      λ l. get_or-drop rate_length l (k - rate_length) 0 ∙ ap (λ j. get_or l j 0) at
      in
      sym (byte a) ∙ ap (λ l. get_or l (k - rate_length) 0) same ∙ byte b

  fields_same : SameFields a b
  fields_same = record { byte = λ k low high. byte_same k low }

  book_same : book_of a ≡ book_of b
  book_same = sym (drop-drop 44 rate_length a) ∙ ap (drop 44) same ∙ drop-drop 44 rate_length b

  -- What reads a job through its criterion, its book and its concentration says the same of both.
  pub judged_same :
      {A : Type 0} (says : Criterion → List ℕ → ℕ → A) →
      says (criterion_of a) (book_of a) (concentration_of a) ≡ says (criterion_of b) (book_of b) (concentration_of b)
  judged_same says =
      ap₂ (λ by book. says by book (concentration_of a)) (criterion_same fields_same) book_same
      ∙ ap (says (criterion_of b) (book_of b)) (for_reading_same fields_same concentration)

  pub checked_same :
      ltb (length a) job_length ≡ ltb (length b) job_length → ltb max_rate (rate a) ≡ ltb max_rate (rate b) →
      (second : List ℕ) → checked_with a (book_of a) second ≡ checked_with b (book_of b) second
  checked_same short fast second =
      checked_by_parts a (book_of a) second
      ∙ ap₂ or_else
      (fields_found_same fields_same short fast)
      (ap₂ or_else (reading_found_same fields_same) (ap (λ book. book_found book second) book_same))
      ∙ sym (checked_by_parts b (book_of b) second)
