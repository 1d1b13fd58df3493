-- Two assessments come out the same where a multiple of the one is a multiple of the other: both have the common
-- factor's verdict. So two ways to judge a room do whose X, Y and B are in the same proportion.
use Prim.Native.Nat.{ℕ, ◌+◌, ◌*◌, ◌<◌}
use native.Mathlib.Omega.{arith}
use mathlib.Core.Path.{◌≡◌, refl, ap, sym, ◌∙◌}
use Rattle.exposure.specs.declared.kind.Kind.{Kind}
use Rattle.verdict.specs.Verdict.{Assessment, weight_of, bound, assessment_by}
use Rattle.verdict.specs.CommonFactor.{CommonFactor, Unchanged}
use Rattle.verdict.proofs.CommonFactor.{common_factor}

abbrev scaled : ℕ → Assessment → Assessment
scaled k a = record { count = a.count; weight = λ i. k * a.weight i; factor = a.factor; bound = k * a.bound }

in_proportion : (j k : ℕ) → 0 < j → 0 < k → (a b : Assessment) → CommonFactor j b (scaled k a) → Unchanged a b
in_proportion j k some-j some-k a b common =
    let by-k : CommonFactor k a (scaled k a) =
    record { count = refl; weight = λ i l. refl; factor = λ i l. refl; bound = refl }
    in
    let of-a = common_factor k some-k a (scaled k a) by-k in
    let of-b = common_factor j some-j b (scaled k a) common in
    record { verdict = λ C. sym (of-b.verdict C) ∙ of-a.verdict C; level = sym of-b.level ∙ of-a.level }

weight_in_proportion :
    (j k x y x' y' h s : ℕ) → k * x ≡ j * x' → k * y ≡ j * y' → k * (365 * x * h + y * s) ≡ j * (365 * x' * h + y' * s)
weight_in_proportion j k x y x' y' h s ex ey = omega (arith, ap (λ t. 365 * h * t) ex, ap (λ t. s * t) ey)

-- By another X, Y and B than those that stand.
module _ (kind : Kind) (x y B x' y' target count : ℕ) (coefficient : ℕ → ℕ → ℕ) (factor : ℕ → ℕ) where
  abbrev before : Assessment
  before =
      record {
        count = count;
        weight = weight_of (record { kind = kind; x = x; y = y; target = target }) coefficient;
        factor = factor;
        bound = B;
      }

  abbrev now : Assessment
  now = assessment_by (record { kind = kind; x = x'; y = y'; target = target }) count coefficient factor

  pub same_verdicts :
      (j k : ℕ) → 0 < j → 0 < k → k * x ≡ j * x' → k * y ≡ j * y' → k * B ≡ j * bound kind target → Unchanged before now
  same_verdicts j k some-j some-k ex ey e_b =
      in_proportion j k some-j some-k before now
      (record {
        count = refl;
        weight = λ i l. weight_in_proportion j k x y x' y' _ _ ex ey;
        factor = λ i l. refl;
        bound = e_b;
      })
