-- Everything that is promised of the lowest rate: the answer is the first rate at which the verdict is 'below', and
-- what the first is, First says. The bytes are RateWritten's.
use Rattle.refusals.specs.Grounds.{Checked}
use Prim.Native.Nat.{ℕ, suc, ◌≤◌}
use native.Mathlib.Omega.{arith}
use mathlib.Core.Path.{◌≡◌, refl, ap, sym, subst, ◌∙◌}
use mathlib.Core.Bool.{Bool, true, false, true≢false}
use mathlib.Core.List.{List}
use Rattle.std.specs.Prelude.{pos, Option, Some, None, Result, Ok, Err}
use Rattle.refusals.specs.declared.Refusal.{Refusal}
use Rattle.refusals.proofs.Numbers.{no_count}
use Rattle.coefficients.specs.Sets.{set_in_use, coefficient_in_use}
use Rattle.book.specs.BookGrounds.{Accepted}
use Rattle.book.specs.Rates.{max_rate}
use Rattle.screening.specs.Job.{concentration_of, book_of}
use Rattle.coefficients.specs.declared.set.CoefficientSet.{CoefficientSet}
use Rattle.screening.specs.JobGrounds.{checked_with}
use Rattle.screening.specs.Screening.{criterion_of}
use Rattle.verdict.specs.declared.verdict.Verdict.{Verdict}
use Rattle.verdict.specs.declared.verdict.Verdict.TheVariants.{Below, Close, Above}
use Rattle.screening.proofs.JobChecks.{job_passes}
use Rattle.ventilation.specs.Lowest.{says_below, verdict_on, lowest_rate, lowest_for}
use Rattle.ventilation.specs.Lowest.{no_rate, rate_number, lowest_number, lowest_with}
use Rattle.ventilation.specs.JobWithRate.{with_rate, Judged}
use Rattle.ventilation.specs.Promises.{LowestPromise, VentilationPromises}
use Rattle.ventilation.proofs.First.{First, first_is}
use Rattle.ventilation.proofs.StaysBelow.{below_rises}
use Rattle.ventilation.proofs.RateWritten.{at_rate, own_rate_ignored}
use Rattle.ventilation.proofs.SecondSet.{first_set, second_set, own_ignored}
use Rattle.ventilation.specs.declared.LowestRate.{LowestRate}

told_below : (verdict : Verdict) → says_below verdict ≡ true → verdict ≡ Below
told_below Below e = refl
told_below Close e = absurd (true≢false (sym e))
told_below Above e = absurd (true≢false (sym e))

told_other : {verdict : Verdict} → says_below verdict ≡ false → ¬ (verdict ≡ Below)
told_other e below = true≢false (ap says_below (sym below) ∙ e)

no_none : (v : ℕ) → ◌≡◌ {A = Option ℕ} None (Some v) → ⊥
no_none v is = cc

no_answer :
    (refusal : Refusal) (lowest : LowestRate) → ◌≡◌ {A = Result LowestRate Refusal} (Err refusal) (Ok lowest) → ⊥
no_answer refusal lowest is = cc

rate_of : (rate : Option ℕ) (set : CoefficientSet) (lowest : LowestRate) →
    ◌≡◌ {A = Result LowestRate Refusal} (Ok (record { rate = rate; set = set })) (Ok lowest) → rate ≡ lowest.rate
rate_of rate set lowest is = cc

module _ (job second : List ℕ) where
  abbrev test : ℕ → Bool
  test v = says_below (verdict_on job second v)

  abbrev answered : Option ℕ → CoefficientSet → Result LowestRate Refusal
  answered rate set = Ok (record { rate = rate; set = set })

  of_found :
      (rate : Option ℕ) (set : CoefficientSet) → First test 0 (suc max_rate) rate → Accepted (book_of job) →
      LowestPromise job second (answered rate set)
  of_found (Some r) set found accepted =
      let rises =
      below_rises (criterion_of job) (book_of job) (coefficient_in_use (book_of job) second) (concentration_of job)
      accepted
      in
      let is-rate : (v : ℕ) → pos r ≡ pos v → r ≡ v = λ v is. cc in
      record {
        rate_within = λ lowest v is rate.
            let same = ap (λ l. pos (rate_number l)) (rate_of (Some r) set lowest is ∙ rate) in
            omega (arith, found.within, is-rate v same);
        within = λ v is. omega (arith, found.within, is-rate v is);
        is_below =
            λ v is low. subst (λ u. verdict_on job second u ≡ Below) (is-rate v is)
            (told_below (verdict_on job second r) found.holds);
        lowest = λ v w is low less. told_other (found.fails w (omega arith) (omega (arith, is-rate v is)));
        stays_below = λ v w is low over within.
            told_below (verdict_on job second w)
            (rises.stays r w (omega (arith, is-rate v is)) (omega arith) found.holds);
        nowhere = λ is w within. absurd (omega (arith, found.within, is-rate no_rate is));
      }
  of_found None set found accepted =
      let is-none : (v : ℕ) → pos no_rate ≡ pos v → no_rate ≡ v = λ v is. cc in
      record {
        rate_within = λ lowest v is rate. absurd (no_none v (rate_of None set lowest is ∙ rate));
        within = λ v is. omega (arith, is-none v is);
        is_below = λ v is low. absurd (omega (arith, is-none v is));
        lowest = λ v w is low less. absurd (omega (arith, is-none v is));
        stays_below = λ v w is low over within. absurd (omega (arith, is-none v is));
        nowhere = λ is w within. told_other (found w (omega arith) (omega arith));
      }

  of_checked :
      (found : Checked) → checked_with job (book_of job) second ≡ found →
      LowestPromise job second (lowest_for found job second)
  of_checked (Ok tt) checked =
      of_found (lowest_rate job second) (set_in_use second)
      (first_is test (suc max_rate) 0 (suc max_rate) (omega arith))
      (job_passes job (book_of job) second checked).accepted
  of_checked (Err refusal) checked =
      record {
        rate_within = λ lowest v is rate. absurd (no_answer refusal lowest is);
        within = λ v is. absurd (no_count refusal v is);
        is_below = λ v is low. absurd (no_count refusal v is);
        lowest = λ v w is low less. absurd (no_count refusal v is);
        stays_below = λ v w is low over within. absurd (no_count refusal v is);
        nowhere = λ is w within. absurd (no_count refusal no_rate is);
      }

pub lowest_promise : (job second : List ℕ) → LowestPromise job second (lowest_with job second)
lowest_promise job second = of_checked job second (checked_with job (book_of job) second) refl

-- What an answer keeps that is the definition's.
pub kept :
    (job second : List ℕ) {answer : Result LowestRate Refusal} → answer ≡ lowest_with job second →
    LowestPromise job second answer
kept job second e = subst (LowestPromise job second) (sym e) (lowest_promise job second)

number_passed :
    (found : Checked) (job second : List ℕ) (v : ℕ) → lowest_number (lowest_for found job second) ≡ pos v →
    found ≡ Ok tt
number_passed (Ok tt) job second v is = refl
number_passed (Err refusal) job second v is = absurd (no_count refusal v is)

at_answer : (job second : List ℕ) (v : ℕ) → lowest_number (lowest_with job second) ≡ pos v → v ≤ max_rate →
    Judged (with_rate v job) second Below
at_answer job second v is low =
    let passed = number_passed (checked_with job (book_of job) second) job second v is in
    subst (Judged (with_rate v job) second) ((lowest_promise job second).is_below v is low)
    (at_rate job second v passed low)

pub ventilation_promises : VentilationPromises
ventilation_promises =
    record {
      lowest = lowest_promise;
      at_rate = at_rate;
      at_answer = at_answer;
      own_rate_ignored = own_rate_ignored;
      first_set = first_set;
      second_set = second_set;
      own_ignored = own_ignored;
    }
