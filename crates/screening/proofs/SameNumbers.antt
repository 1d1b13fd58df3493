-- Two sets of numbers that agree on a book's members give the same verdict and level, and the same alpha sum.
use Prim.Native.Nat.{ℕ, ◌+◌, ◌*◌, ◌<◌}
use native.Mathlib.Omega.{arith}
use mathlib.Core.Path.{◌≡◌, ap₂}
use Rattle.book.specs.Fields.{coefficient_count}
use Rattle.exposure.specs.declared.kind.Kind.{Kind}
use Rattle.verdict.specs.Verdict.{inhalation, submersion, weight_of, assessment_by, bound_of}
use Rattle.verdict.specs.WorkingLevels.{alpha_weight, alpha_sum}
use Rattle.verdict.specs.HeldNumbers.{judged_on}
use Rattle.verdict.specs.declared.verdict.Criterion.{Criterion}
use Rattle.verdict.proofs.SameAssessment as any

inhalation_listed : (kind : Kind) → inhalation kind < coefficient_count
inhalation_listed Kind.Risk = omega arith
inhalation_listed Kind.Dose = omega arith

submersion_listed : (kind : Kind) → submersion kind < coefficient_count
submersion_listed Kind.Risk = omega arith
submersion_listed Kind.Dose = omega arith

-- Each of the five of each of so many members.
abbrev pub SameNumbers : ℕ → (ℕ → ℕ → ℕ) → (ℕ → ℕ → ℕ) → Type 0
SameNumbers n q q' = (i which : ℕ) → i < n → which < coefficient_count → q i which ≡ q' i which

module _
    (n : ℕ) {q q' : ℕ → ℕ → ℕ} (same : SameNumbers n q q') {f f' : ℕ → ℕ} (factors : (i : ℕ) → i < n → f i ≡ f' i) where
  weight_is : (by : Criterion) (i : ℕ) → i < n → weight_of by q i ≡ weight_of by q' i
  weight_is by i l =
      ap₂
      (λ h s. 365 * by.x * h + by.y * s)
      (same i (inhalation by.kind) l (inhalation_listed by.kind))
      (same i (submersion by.kind) l (submersion_listed by.kind))

  pub judged_same : (by : Criterion) (C : ℕ) →
      judged_on (assessment_by by n q f) C ≡ judged_on (assessment_by by n q' f') C
  judged_same by C = any.judged_same n (weight_is by) factors (bound_of by) C

  pub alpha_same : alpha_sum n q f ≡ alpha_sum n q' f'
  alpha_same = any.alpha_same n q q' (λ i l. same i alpha_weight l (omega arith)) factors
