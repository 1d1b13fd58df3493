-- What is promised of any assessment, wherever its numbers come from (document 01, "Verdict").
use Rattle.std.specs.Prelude.{ℕ, ◌+◌, ◌*◌, ◌≤◌, ◌<◌, ◌≡◌}
use Rattle.numbers.specs.Sums.{sum_below}
use Rattle.balance.specs.Balance.{G, raised}
use Rattle.verdict.specs.Verdict.{Assessment, gap, verdict_at, verdict_order, max_level, level}
use Rattle.verdict.specs.CommonFactor.{CommonFactor, Unchanged}
use Rattle.verdict.specs.WholeHours.{RestatedPromise}
use Rattle.verdict.specs.declared.verdict.Verdict.{Verdict}
use Rattle.verdict.specs.declared.verdict.Verdict.TheVariants.{Below, Close, Above}

-- Exact factors, member i's x / P, for reported ones of f grains: each is at least the reported one, and at most that
-- with 2i added, capped at G. Each comparison is multiplied out.
pub record Enclosed (n P : ℕ) (f x : ℕ → ℕ) : Type 0 where
  pub not_above : (i : ℕ) → i < n → f i * P ≤ x i * G
  pub at_most_raised : (i : ℕ) → i < n → x i * G ≤ raised i (f i) * P

-- The exact quantity is Low with exact factors in grains: this whole numerator, over P.
abbrev pub exactly : Assessment → (ℕ → ℕ) → ℕ → ℕ
exactly a x C = C * sum_below a.count (λ i. a.weight i * (x i * G))

-- What a verdict given at concentration C says of the exact quantity, with exact factors x / P. Each comparison is
-- multiplied out.
pub record VerdictPromise (a : Assessment) (P : ℕ) (x : ℕ → ℕ) (C : ℕ) (given : Verdict) : Type 0 where
  -- 'below' only if it is at most B
  pub below : given ≡ Below → exactly a x C ≤ a.bound * P
  -- 'above' only if it is more
  pub above : given ≡ Above → a.bound * P < exactly a x C
  -- 'close' only if the two differ by no more than the gap
  pub close_under : given ≡ Close → exactly a x C ≤ (a.bound + gap a C) * P
  pub close_over : given ≡ Close → a.bound * P ≤ exactly a x C + gap a C * P

-- The level is the largest whole C from 0 to 4,000,000,000 for which the verdict is 'below'.
pub record LevelPromise (a : Assessment) : Type 0 where
  pub within : level a ≤ max_level
  pub is_below : verdict_at a (level a) ≡ Below
  pub largest : (C : ℕ) → C ≤ max_level → verdict_at a C ≡ Below → C ≤ level a

-- The second has the same members, weights and B as the first, and no larger factor.
pub record NoLarger (a b : Assessment) : Type 0 where
  pub count : b.count ≡ a.count
  pub weight : (i : ℕ) → i < a.count → b.weight i ≡ a.weight i
  pub factor : (i : ℕ) → i < a.count → b.factor i ≤ a.factor i
  pub bound : b.bound ≡ a.bound

pub record AssessmentPromises : Type 0 where
  -- the verdict tells the truth, whatever the exact factors are that the reported ones are near
  pub verdict :
      (a : Assessment) (P : ℕ) (x : ℕ → ℕ) (C : ℕ) → 0 < P → Enclosed a.count P a.factor x →
      VerdictPromise a P x C (verdict_at a C)
  pub level : (a : Assessment) → LevelPromise a
  -- where no factor is larger no verdict is worse
  pub no_worse : (a b : Assessment) (C : ℕ) → NoLarger a b →
      verdict_order (verdict_at b C) ≤ verdict_order (verdict_at a C)
  -- every weight and B times the same k above 0 leave verdict and level as they were
  pub common_factor : (k : ℕ) (a b : Assessment) → 0 < k → CommonFactor k a b → Unchanged a b
  -- and so does an exposure in whole hours, restated in quarter hours
  pub whole_hours : RestatedPromise
