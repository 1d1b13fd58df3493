-- What is worked out from the slices that a caller holds: the members' numbers, a row each, and their factors.
use Rattle.std.specs.Prelude.{ℕ, ◌+◌, ◌*◌, ◌^◌, ◌≤◌, ◌<◌, min, ◌≡◌, List, [], length, get_or}
use Rattle.book.specs.Limits.{max_members}
use Rattle.balance.specs.Balance.{G}
use Rattle.verdict.specs.Verdict.{Assessment, assessment_by, weight_of, max_target}
use Rattle.verdict.specs.Verdict.{low, high, verdict_at, max_level, level}
use Rattle.verdict.specs.WorkingLevels.{alpha_sum}
use Rattle.verdict.specs.declared.verdict.Criterion.{Criterion}
use Rattle.verdict.specs.declared.verdict.Judgement.{Judgement}

-- A member's number, in its row.
abbrev pub number_in : List (List ℕ) → ℕ → ℕ → ℕ
number_in coefficients i which = get_or (get_or coefficients i []) which 0

-- A member's number times its factor with a margin, capped.
abbrev pub raised_in : List (List ℕ) → List ℕ → ℕ → ℕ → ℕ → ℕ → ℕ
raised_in coefficients factors which margin cap i =
    number_in coefficients i which * min (get_or factors i 0 + margin * i) cap

-- A member's term of Low (margin 0) and of High (margin 2): the weight times the factor with its margin, capped at G.
abbrev pub term_in : Criterion → List (List ℕ) → List ℕ → ℕ → ℕ → ℕ
term_in by coefficients factors margin i =
    weight_of by (number_in coefficients) i * min (get_or factors i 0 + margin * i) G

abbrev pub assessment_in : Criterion → List (List ℕ) → List ℕ → Assessment
assessment_in by coefficients factors =
    assessment_by by (length factors) (number_in coefficients) (λ i. get_or factors i 0)

abbrev pub alpha_in : List (List ℕ) → List ℕ → ℕ
alpha_in coefficients factors = alpha_sum (length factors) (number_in coefficients) (λ i. get_or factors i 0)

-- The verdict and the level of an assessment at C.
abbrev pub judged_on : Assessment → ℕ → Judgement
judged_on a C = record { verdict = verdict_at a C; level = level a }

-- What is asked of the numbers. A concentration, as a level, is at most 4,000,000,000.
pub record Summable (by : Criterion) (coefficients : List (List ℕ)) (factors : List ℕ) : Type 0 where
  pub target : by.target ≤ max_target
  pub rows : length coefficients ≡ length factors
  pub members : length factors ≤ max_members
  pub capped : (i : ℕ) → i < length factors → get_or factors i 0 ≤ G

pub record Judgeable (by : Criterion) (C : ℕ) (coefficients : List (List ℕ)) (factors : List ℕ) : Type 0 where
  pub summable : Summable by coefficients factors
  pub concentration : C ≤ max_level

-- Sums that are an assessment's: Low and High at one mBq/m³, and B.
pub record SumsOf (a : Assessment) (lows highs bound : ℕ) : Type 0 where
  pub low_is : lows ≡ low a 1
  pub high_is : highs ≡ high a 1
  pub bound_is : bound ≡ a.bound
  pub low_fits : lows ≤ 2 ^ 117
  pub high_fits : highs ≤ 2 ^ 117

-- Sums whose products with C do not pass six limbs.
pub record Comparable (lows highs C : ℕ) : Type 0 where
  pub low_fits : lows ≤ 2 ^ 117
  pub high_fits : highs ≤ 2 ^ 117
  pub concentration : C ≤ max_level

-- What the working levels are worked out from: no more at the rate than at rate 0, C at most its limit, and a divisor
-- W.
pub record WorkingInRange (at_rate at_zero C W : ℕ) : Type 0 where
  pub falls : at_rate ≤ at_zero
  pub sums : at_zero ≤ 2 ^ 117
  pub concentration : C ≤ max_level
  pub some_divisor : 0 < W
