-- The verdict on risk or yearly dose, and the screening level (document 01, "Verdict").
use Rattle.std.specs.Prelude.{ℕ, ◌+◌, ◌*◌, ◌/◌, ◌^◌, min, cond, leb, eqb}
use Rattle.numbers.specs.Sums.{sum_below}
use Rattle.balance.specs.Balance.{G, raised}
use Rattle.exposure.specs.declared.kind.Kind.{Kind}
use Rattle.verdict.specs.declared.verdict.Criterion.{Criterion}
use Rattle.verdict.specs.declared.verdict.Verdict.{Verdict}
use Rattle.verdict.specs.declared.verdict.Verdict.TheVariants.{Below, Close, Above}

-- Which of a member's five numbers is the inhalation coefficient, and which the submersion coefficient.
abbrev pub inhalation : Kind → ℕ
inhalation Kind.Risk = 0
inhalation Kind.Dose = 2

abbrev pub submersion : Kind → ℕ
submersion Kind.Risk = 1
submersion Kind.Dose = 3

-- A room is judged by a kind, its X and Y, and a target.
-- q(i) = 365·X·h + Y·s, of the coefficients in use.
abbrev pub weight_of : Criterion → (ℕ → ℕ → ℕ) → ℕ → ℕ
weight_of by coefficient i = 365 * by.x * coefficient i (inhalation by.kind) + by.y * coefficient i (submersion by.kind)

-- B. Its factor 4 matches the quarter hours of X and Y (document 02, R-1), and the 100 of dose, in Z's place, their
-- hundredths (R-2).
abbrev pub bound : Kind → ℕ → ℕ
bound Kind.Risk target = target * 37 * (4 * 8760) * 10 ^ 8 * G
bound Kind.Dose target = target * 100 * 37 * (4 * 8760) * 10 ^ 7 * G

abbrev pub bound_of : Criterion → ℕ
bound_of by = bound by.kind by.target

-- A target is in billionths of risk or thousandths of mrem per year.
abbrev pub max_target : ℕ
max_target = 1000000000

-- What a verdict is reached on: so many members, the weight q and the reported factor of each, in grains, and B.
pub record Assessment : Type 0 where
  pub count : ℕ
  pub weight : ℕ → ℕ
  pub factor : ℕ → ℕ
  pub bound : ℕ

-- By a criterion, with the coefficients in use.
abbrev pub assessment_by : Criterion → ℕ → (ℕ → ℕ → ℕ) → (ℕ → ℕ) → Assessment
assessment_by by count coefficient factor =
    record { count = count; weight = weight_of by coefficient; factor = factor; bound = bound_of by }

-- Low: C × the sum of q(i) × reported factor.
abbrev pub low : Assessment → ℕ → ℕ
low a C = C * sum_below a.count (λ i. a.weight i * a.factor i)

-- High: the same with 2i added to each factor, capped at G.
abbrev pub high : Assessment → ℕ → ℕ
high a C = C * sum_below a.count (λ i. a.weight i * raised i (a.factor i))

-- The gap, in the scale of B.
abbrev pub gap : Assessment → ℕ → ℕ
gap a C = C * sum_below a.count (λ i. 2 * i * a.weight i)

-- 'Below': High ≤ B. 'Above': Low > B. Otherwise 'close'.
abbrev pub verdict_of : ℕ → ℕ → ℕ → Verdict
verdict_of L H B = cond (leb H B) Below (cond (leb L B) Close Above)

abbrev pub verdict_at : Assessment → ℕ → Verdict
verdict_at a C = verdict_of (low a C) (high a C) a.bound

-- From best to worst, from 1 on: a place of zeros that nobody wrote is no verdict, and so never 'below'.
abbrev pub verdict_order : Verdict → ℕ
verdict_order Below = 1
verdict_order Close = 2
verdict_order Above = 3

-- The largest q from 0 to cap with q × b ≤ a.
abbrev pub capped_quotient : ℕ → ℕ → ℕ → ℕ
capped_quotient cap a b = cond (eqb b 0) cap (min cap (a / b))

-- The screening level: High is C times its value at 1, so this is the largest C with High ≤ B (`LevelPromise`).
abbrev pub max_level : ℕ
max_level = 4000000000

unfoldable pub level : Assessment → ℕ
level a = capped_quotient max_level a.bound (high a 1)
