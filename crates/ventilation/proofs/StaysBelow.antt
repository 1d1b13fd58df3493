-- What is enough stays enough: at a higher rate no verdict is worse (demand 3), so once the verdict is 'below' it is at
-- every higher rate.
use Prim.Native.Nat.{ℕ, suc, ◌≤◌, ◌<◌}
use native.Mathlib.Nat.{le_refl, le_trans}
use Rattle.std.proofs.Common.{leb}
use native.Mathlib.Omega.{arith}
use mathlib.Core.Path.{◌≡◌, refl, ap, sym, ◌∙◌}
use mathlib.Core.Bool.{true}
use mathlib.Core.List.{List}
use Rattle.coefficients.specs.Sets.{coefficient_in_use}
use Rattle.coefficients.specs.Rows.{rows_in_use}
use Rattle.book.specs.BookGrounds.{Accepted}
use Rattle.book.specs.Rates.{max_rate}
use Rattle.numbers.specs.Bisection.{Between, Rises}
use Rattle.numbers.proofs.Bisection.{found}
use Rattle.verdict.specs.Verdict.{verdict_at, verdict_order}
use Rattle.screening.specs.Screening.{assessment_at}
use Rattle.screening.specs.Screenable.{Screenable}
use Rattle.verdict.specs.HeldNumbers.{number_in}
use Rattle.verdict.specs.declared.verdict.Criterion.{Criterion}
use Rattle.verdict.specs.declared.verdict.Verdict.{Verdict}
use Rattle.verdict.specs.declared.verdict.Verdict.TheVariants.{Below, Close, Above}
use Rattle.screening.proofs.Promised.{demand_3}
use Rattle.screening.proofs.HeldNumbers.{by_rows}
use Rattle.ventilation.specs.Lowest.{says_below}
use Rattle.ventilation.specs.Private.BelowAt.{below_at}

best : (verdict : Verdict) → says_below verdict ≡ true → verdict_order verdict ≤ 1
best Below e = omega arith
best Close e = absurd (let z : ◌≡◌ {A = ℕ} 0 1 = cc in omega arith)
best Above e = absurd (let z : ◌≡◌ {A = ℕ} 0 1 = cc in omega arith)

only_best : (verdict : Verdict) → verdict_order verdict ≤ 1 → says_below verdict ≡ true
only_best Below l = refl
only_best Close l = absurd (omega arith)
only_best Above l = absurd (omega arith)

pub below_rises :
    (by : Criterion) (book : List ℕ) (numbers : ℕ → ℕ → ℕ) (C : ℕ) → Accepted book →
    Rises (below_at by book numbers C) (suc max_rate)
below_rises by book numbers C accepted =
    let verdict : ℕ → Verdict = λ v. verdict_at (assessment_at by book numbers v) C in
    record {
      stays = λ k l rises less holds.
          let falls = demand_3.no_worse by book numbers k l C accepted rises (omega arith) in
          only_best (verdict l) (le_trans falls (best (verdict k) holds));
    }

-- What is found with the array's numbers is found with the book's.
pub by_book :
    {by : Criterion} {v C r : ℕ} {book : List ℕ} (second : List ℕ) {array : List (List ℕ)} → Screenable by v C book →
    array ≡ rows_in_use book second → Between (below_at by book (number_in array) C) (suc max_rate) r r →
    (k : ℕ) → k < suc max_rate → below_at by book (coefficient_in_use book second) C k ≡ leb r k
by_book {by} {v} {C} {r} {book} second {array = array} asked read span k less =
    let rises = below_rises by book (number_in array) C asked.accepted in
    ap says_below (sym (by_rows book second read by C k)) ∙ found span rises (le_refl r) k less
