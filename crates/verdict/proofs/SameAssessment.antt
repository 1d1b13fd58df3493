-- A verdict, a level and an alpha sum depend on the members' weights and factors alone: two assessments that agree
-- there have the factor 1 in common, and so the same answers.
use Prim.Native.Nat.{ℕ, suc, ◌-◌, ◌*◌, ◌<◌}
use native.Mathlib.Omega.{arith}
use mathlib.Core.Path.{◌≡◌, refl, ap₂, ◌∙◌}
use Rattle.verdict.specs.Verdict.{Assessment}
use Rattle.verdict.specs.CommonFactor.{CommonFactor}
use Rattle.verdict.specs.WorkingLevels.{alpha_weight, alpha_sum}
use Rattle.verdict.specs.HeldNumbers.{judged_on}
use Rattle.numbers.proofs.Sums.{sum_same}
use Rattle.verdict.proofs.CommonFactor.{common_factor}

pub alpha_same :
    (n : ℕ) (q q' : ℕ → ℕ → ℕ) {f f' : ℕ → ℕ}
    → ((i : ℕ) → i < n → q i alpha_weight ≡ q' i alpha_weight)
    → ((i : ℕ) → i < n → f i ≡ f' i)
    → alpha_sum n q f ≡ alpha_sum n q' f'
alpha_same n q q' weights factors =
    sum_same (n - 1)
    (λ i l.
    let later : suc i < n = omega arith in
    ap₂ (λ x y. x * y) (weights (suc i) later) (factors (suc i) later))

module _
    (n : ℕ) {w w' f f' : ℕ → ℕ} (weights : (i : ℕ) → i < n → w i ≡ w' i) (factors : (i : ℕ) → i < n → f i ≡ f' i) where
  abbrev before : ℕ → Assessment
  before B = record { count = n; weight = w; factor = f; bound = B }

  abbrev after : ℕ → Assessment
  after B = record { count = n; weight = w'; factor = f'; bound = B }

  alike : (B : ℕ) → CommonFactor 1 (after B) (before B)
  alike B =
      record { count = refl; weight = λ i l. weights i l ∙ omega arith; factor = factors; bound = omega arith }

  pub judged_same : (B C : ℕ) → judged_on (before B) C ≡ judged_on (after B) C
  judged_same B C =
      let same = common_factor 1 (omega arith) (after B) (before B) (alike B) in
      rw (same.verdict C, same.level)
