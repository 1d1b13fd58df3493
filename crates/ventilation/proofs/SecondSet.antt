-- What the lowest rate by a second set says: it is that of the job with the set written over its book's own numbers,
-- since the verdicts are.
use Rattle.std.specs.Prelude.{Result, Ok, Err}
use Prim.Native.Nat.{ℕ, suc}
use native.Mathlib.Omega.{arith}
use mathlib.Core.Path.{◌≡◌, refl, ap, sym, fun_ext, ◌∙◌}
use mathlib.Core.List.{List, []}
use Rattle.refusals.specs.Grounds.{Checked}
use Rattle.refusals.specs.declared.Refusal.{Refusal}
use Rattle.book.specs.Rates.{max_rate}
use Rattle.coefficients.specs.Sets.{set_in_use, set_number}
use Rattle.coefficients.specs.declared.set.CoefficientSet.{CoefficientSet}
use Rattle.coefficients.proofs.Lent.{not_lent, lent}
use Rattle.screening.specs.Job.{book_of}
use Rattle.screening.specs.JobGrounds.{checked_with, checked_job}
use Rattle.screening.specs.SecondSet.{with_set}
use Rattle.screening.proofs.SecondSet.{answered_alike}
use Rattle.screening.proofs.WrittenJob.{still_passes, judged_kept}
use Rattle.ventilation.specs.Lowest.{first_rate, says_below, lowest_rate, lowest_for, lowest_with, lowest_of}
use Rattle.ventilation.specs.declared.LowestRate.{LowestRate}

abbrev named : CoefficientSet → LowestRate → LowestRate
named set answer = record { rate = answer.rate; set = set }

abbrev found_by : List ℕ → List ℕ → LowestRate
found_by job second = record { rate = lowest_rate job second; set = set_in_use second }

answered_passed :
    (found : Checked) (job second : List ℕ) (answer : LowestRate) → lowest_for found job second ≡ Ok answer →
    (found ≡ Ok tt) × (answer ≡ found_by job second)
answered_passed (Ok tt) job second answer e = (refl, cc)
answered_passed (Err r) job second answer e = absurd (let z : ◌≡◌ {A = ℕ} 0 1 = cc in omega arith)

written_lowest :
    (job second : List ℕ) → checked_with job (book_of job) second ≡ Ok tt →
    set_in_use second ≡ CoefficientSet.Second →
    lowest_of (with_set second job) ≡ Ok (named CoefficientSet.Book (found_by job second))
written_lowest job second passed is_lent =
    ap (λ found. lowest_for found (with_set second job) []) (still_passes job second passed is_lent)
    ∙ ap (λ test. Ok (record { rate = first_rate test 0 (suc max_rate); set = CoefficientSet.Book }))
    (fun_ext (λ v. ap says_below (judged_kept job second passed is_lent v)))

module _ (job second : List ℕ) (answer : LowestRate) (answered : lowest_with job second ≡ Ok answer) where
  passed : (checked_with job (book_of job) second ≡ Ok tt) × (answer ≡ found_by job second)
  passed = answered_passed (checked_with job (book_of job) second) job second answer answered

  number_is : {n : ℕ} → set_number answer.set ≡ n → set_number (set_in_use second) ≡ n
  number_is named = sym (ap (λ a. set_number a.set) passed.1) ∙ named

  pub first_set : set_number answer.set ≡ 1 → lowest_of job ≡ Ok answer
  first_set named = ap (lowest_with job) (sym (not_lent second (number_is named))) ∙ answered

  pub second_set : set_number answer.set ≡ 2 → lowest_of (with_set second job) ≡ Ok (named CoefficientSet.Book answer)
  second_set two =
      written_lowest job second passed.0 (lent second (number_is two))
      ∙ ap (λ a. Ok (named CoefficientSet.Book a)) (sym passed.1)

same_answer : {a b : LowestRate} → ◌≡◌ {A = Result LowestRate Refusal} (Ok a) (Ok b) → a ≡ b
same_answer e = cc

pub own_ignored :
    (job other second : List ℕ) → set_number (set_in_use second) ≡ 2 → with_set second job ≡ with_set second other →
    checked_job job (book_of job) ≡ Ok tt → checked_job other (book_of other) ≡ Ok tt →
    lowest_with job second ≡ lowest_with other second
own_ignored job other second two same here there =
    let is_lent = lent second two in
    answered_alike job other second two same here there (λ found job. lowest_for found job second)
    (λ refusal. refl)
    (λ a b.
    let both =
    sym (written_lowest job second a is_lent) ∙ ap lowest_of same ∙ written_lowest other second b is_lent in
    ap (λ answer. Ok (named (set_in_use second) answer)) (same_answer both))
