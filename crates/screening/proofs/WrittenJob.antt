-- The job with a second set written over its book's own numbers has the same fields, is accepted where the set is, and
-- has the same answer but for the set's name.
use Rattle.std.specs.Prelude.{Ok}
use Prim.Native.Nat.{ℕ, ◌≤◌, ◌<◌}
use native.Mathlib.Omega.{arith}
use mathlib.Core.Path.{◌≡◌, ap, ap₂, sym, ◌∙◌}
use mathlib.Core.Bool.{false}
use mathlib.Core.List.{List, []}
use lib.Dec.{ltb}
use lib.ListN.{length, get_or, take, length-append, get_or-append}
use lib.Seq.{length-take-le, get_or-take, drop_at}
use borrow.Author.Tests.{le-ltb}
use Rattle.refusals.specs.Grounds.{or_else}
use Rattle.book.specs.Rates.{max_rate}
use Rattle.coefficients.specs.Sets.{set_in_use}
use Rattle.coefficients.specs.SetGrounds.{second_set_out_of_range}
use Rattle.coefficients.specs.WrittenOver.{written_over}
use Rattle.coefficients.specs.declared.set.CoefficientSet.{CoefficientSet}
use Rattle.coefficients.proofs.Lent.{in_range}
use Rattle.coefficients.proofs.WrittenOver.{still_accepted}
use Rattle.reading.specs.Reading.{concentration}
use Rattle.screening.specs.Job.{rate, job_length, concentration_of, book_of}
use Rattle.screening.specs.JobGrounds.{checked_with}
use Rattle.screening.specs.Screening.{criterion_of, answer_for, answer_of}
use Rattle.screening.specs.SecondSet.{with_set, named}
use Rattle.screening.proofs.Answers.{screened_of, judged}
use Rattle.screening.proofs.JobChecks.{JobPasses, checked_by_parts, book_found, job_passes}
use Rattle.screening.proofs.SameBytes.{SameFields, start_same, rate_same, criterion_same, for_reading_same}
use Rattle.screening.proofs.SameBytes.{fields_found_same, reading_found_same}
use Rattle.screening.proofs.WrittenAnswer.{verdict_kept, screened_kept}

-- The job with the set written over its book's own numbers.
module _ (second job : List ℕ) (long : job_length ≤ length job) where
  abbrev other : List ℕ
  other = with_set second job

  front : length (take job_length job) ≡ job_length
  front = length-take-le job_length job long

  pub book_is : book_of other ≡ written_over second (book_of job)
  book_is = drop_at (take job_length job) _ job_length front

  byte_is : (k : ℕ) → k < job_length → get_or other k 0 ≡ get_or job k 0
  byte_is k l = get_or-append (take job_length job) _ 0 k (omega (arith, front)) ∙ get_or-take job_length job k 0 l

  still_long : job_length ≤ length other
  still_long = omega (arith, front, length-append (take job_length job) (written_over second (book_of job)))

module _ (job second : List ℕ) (passed : checked_with job (book_of job) second ≡ Ok tt)
    (is_lent : set_in_use second ≡ CoefficientSet.Second) where
  passes : JobPasses job (book_of job) second
  passes = job_passes job (book_of job) second passed

  fits : second_set_out_of_range (book_of job) second ≡ false
  fits = in_range (book_of job) second is_lent passes.set

  abbrev written : List ℕ
  written = with_set second job

  byte : (k : ℕ) → k < job_length → get_or written k 0 ≡ get_or job k 0
  byte = byte_is second job passes.fields.long

  fields : SameFields written job
  fields = start_same written job byte

  rate_kept : rate written ≡ rate job
  rate_kept = rate_same written job byte

  book_found_kept : book_found (book_of written) [] ≡ book_found (book_of job) second
  book_found_kept =
      ap (λ book. book_found book []) (book_is second job passes.fields.long)
      ∙ ap (λ of_book. or_else of_book (Ok tt)) (still_accepted second (book_of job) fits passes.accepted)
      ∙ sym (ap₂ or_else passes.accepted passes.set)

  pub still_passes : checked_with written (book_of written) [] ≡ Ok tt
  still_passes =
      checked_by_parts written (book_of written) []
      ∙ ap₂ or_else
      (fields_found_same fields
      (le-ltb (length written) job_length (still_long second job passes.fields.long)
      ∙ sym (le-ltb (length job) job_length passes.fields.long))
      (ap (ltb max_rate) rate_kept))
      (ap₂ or_else (reading_found_same fields) book_found_kept)
      ∙ sym (checked_by_parts job (book_of job) second)
      ∙ passed

  screened_same : screened_of written [] ≡ named CoefficientSet.Book (screened_of job second)
  screened_same =
      rw (
        criterion_same fields,
        book_is second job passes.fields.long,
        rate_kept,
        for_reading_same fields concentration,
      )
      (screened_kept second (book_of job) passes.accepted fits is_lent (criterion_of job) (rate job)
      (concentration_of job))

  -- The verdict at any rate.
  pub judged_kept : (v : ℕ) → judged (criterion_of written) (book_of written) [] v (concentration_of written)
      ≡ judged (criterion_of job) (book_of job) second v (concentration_of job)
  judged_kept v =
      ap₂ (λ by C. judged by (book_of written) [] v C) (criterion_same fields) (for_reading_same fields concentration)
      ∙ ap (λ book. judged (criterion_of job) book [] v (concentration_of job)) (book_is second job passes.fields.long)
      ∙ verdict_kept second (book_of job) passes.accepted fits is_lent (criterion_of job) v (concentration_of job)

  pub written_answer : answer_of written ≡ Ok (named CoefficientSet.Book (screened_of job second))
  written_answer = ap (λ found. answer_for found written []) still_passes ∙ ap Ok screened_same
