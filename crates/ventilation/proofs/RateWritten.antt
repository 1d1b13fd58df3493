-- A rate within the limit, written into a job that passes its checks, reads back and leaves all later bytes as they
-- were. So the checks still pass, and what is judged is the same job at that rate.
use Rattle.std.specs.Prelude.{Ok}
use Prim.Native.Nat.{ℕ, suc, ◌+◌, ◌*◌, ◌/◌, ◌%◌, ◌^◌, ◌≤◌, ◌<◌}
use native.Mathlib.Nat.{div-div-eq-div-mul}
use native.Mathlib.Omega.{arith}
use mathlib.Core.Path.{◌≡◌, refl, ap, ap₂, sym, ◌∙◌}
use mathlib.Core.List.{List}
use lib.ListN.{length, drop, length-drop}
use borrow.Author.Tests.{le-ltb}
use Rattle.coefficients.specs.Sets.{set_in_use}
use Rattle.book.specs.Rates.{max_rate}
use Rattle.screening.specs.Job.{rate, rate_length, job_length, book_of}
use Rattle.screening.specs.JobGrounds.{checked_with}
use Rattle.screening.specs.Screening.{figures_at, answer_for}
use Rattle.verdict.specs.declared.verdict.Verdict.{Verdict}
use Rattle.screening.proofs.JobChecks.{FieldsPass, job_passes}
use Rattle.screening.proofs.SameBytes.{judged_same, checked_same}
use Rattle.screening.proofs.Answers.{screened_of, judged}
use Rattle.ventilation.specs.Lowest.{first_rate, says_below, verdict_on, lowest_for, lowest_with}
use Rattle.ventilation.specs.JobWithRate.{with_rate, Judged}

two_bytes : (x : ℕ) → x % 2 ^ 8 + 2 ^ 8 * (x / 2 ^ 8 % 2 ^ 8) ≡ x % 2 ^ 16
two_bytes x = omega (arith, div-div-eq-div-mul x (2 ^ 8) (2 ^ 8))

four_bytes : (x : ℕ) → x < 2 ^ 32 → x % 2 ^ 16 + 2 ^ 16 * (x / 2 ^ 16 % 2 ^ 16) ≡ x
four_bytes x fits = omega arith

pub rate_written : (w : ℕ) (job : List ℕ) → w < 2 ^ 32 → rate (with_rate w job) ≡ w
rate_written w job fits =
    ap₂
    (λ low high. low + 2 ^ 16 * high)
    (two_bytes w)
    (ap (λ top. w / 2 ^ 16 % 2 ^ 8 + 2 ^ 8 * (top % 2 ^ 8)) (sym (div-div-eq-div-mul w (2 ^ 16) (2 ^ 8)))
    ∙ two_bytes (w / 2 ^ 16))
    ∙ four_bytes w fits

pub rest_kept : (w : ℕ) (job : List ℕ) → drop rate_length (with_rate w job) ≡ drop rate_length job
rest_kept w job = refl

-- A job that passes its checks is answered with the verdict on it at its own rate.
judged_at_own_rate :
    (job second : List ℕ) (verdict : Verdict) → checked_with job (book_of job) second ≡ Ok tt →
    verdict_on job second (rate job) ≡ verdict → Judged job second verdict
unfolding figures_at
judged_at_own_rate job second verdict passed given =
    record {
      answer = screened_of job second;
      accepted = ap (λ c. answer_for c job second) passed;
      given = given;
    }

module _ (job second : List ℕ) (w : ℕ) (passed : checked_with job (book_of job) second ≡ Ok tt)
    (within : w ≤ max_rate) where
  fields : FieldsPass job
  fields = (job_passes job (book_of job) second passed).fields

  rate_is : rate (with_rate w job) ≡ w
  rate_is = rate_written w job (omega arith)

  long_enough : job_length ≤ length (with_rate w job)
  long_enough = omega (arith, length-drop rate_length job, fields.long)

  pub passes_at_rate : checked_with (with_rate w job) (book_of (with_rate w job)) second ≡ Ok tt
  passes_at_rate =
      checked_same (with_rate w job) job (rest_kept w job)
      (le-ltb (length (with_rate w job)) job_length long_enough ∙ sym (le-ltb (length job) job_length fields.long))
      (le-ltb max_rate (rate (with_rate w job)) (rw rate_is within) ∙ sym (le-ltb max_rate (rate job) fields.rate))
      second
      ∙ passed

  pub at_rate : Judged (with_rate w job) second (verdict_on job second w)
  at_rate =
      judged_at_own_rate
      (with_rate w job)
      second
      (verdict_on job second w)
      passes_at_rate
      (ap (verdict_on (with_rate w job) second) rate_is
      ∙ judged_same (with_rate w job) job (rest_kept w job) (λ by book. judged by book second w))

  pub own_rate_ignored : lowest_with (with_rate w job) second ≡ lowest_with job second
  own_rate_ignored =
      ap (λ c. lowest_for c (with_rate w job) second) passes_at_rate
      ∙ judged_same (with_rate w job) job (rest_kept w job)
      (λ by book C. Ok (record {
        rate = first_rate (λ v. says_below (judged by book second v C)) 0 (suc max_rate);
        set = set_in_use second;
      }))
      ∙ ap (λ c. lowest_for c job second) (sym passed)
