-- The sums in limbs are those of the assessment: a factor is at most G, so the cap leaves it as it is.
use Prim.Native.Nat.{ℕ, ◌*◌, ◌%◌, ◌^◌, ◌≤◌, ◌<◌}
use native.Mathlib.Nat.{one-mul}
use native.Mathlib.Omega.{arith}
use mathlib.Core.Path.{◌≡◌, sym, ap, ◌∙◌}
use mathlib.Core.List.{List}
use lib.Dec.{lit<}
use lib.ListN.{length, get_or}
use Rattle.wide.specs.Value.{modulus}
use Rattle.balance.specs.Balance.{G, raised}
use Rattle.numbers.specs.Sums.{sum_below}
use Rattle.verdict.specs.Verdict.{Assessment, bound_of, weight_of, verdict_of, verdict_at}
use Rattle.verdict.specs.Verdict.{capped_quotient, max_level, level}
use Rattle.verdict.specs.HeldNumbers.{number_in, term_in, assessment_in, judged_on, Summable, SumsOf}
use Rattle.verdict.specs.declared.verdict.Criterion.{Criterion}
use Rattle.verdict.specs.declared.verdict.Judgement.{Judgement}
use Rattle.verdict.specs.declared.verdict.Verdict.{Verdict}
use Rattle.verdict.proofs.Columns.{uncapped}
use Rattle.verdict.proofs.ExactLimbs.{exact_multiple}
use Rattle.numbers.proofs.Sums.{sum_same}

module _ (by : Criterion) (coefficients : List (List ℕ)) (factors : List ℕ) where
  -- what `weighted_sum` answers
  abbrev Answered : ℕ → ℕ → Type 0
  Answered margin sum = (sum ≡ sum_below (length factors) (term_in by coefficients factors margin)) × (sum ≤ 2 ^ 117)

  low_sum :
      {sum : ℕ} → ((i : ℕ) → i < length factors → get_or factors i 0 ≤ G) → Answered 0 sum →
      sum ≡ sum_below (length factors) (λ i. weight_of by (number_in coefficients) i * get_or factors i 0)
  low_sum capped answered =
      answered.0
      ∙ sum_same (length factors)
      (λ i l. ap (λ f. weight_of by (number_in coefficients) i * f) (uncapped (get_or factors i 0) i G (capped i l)))

  pub sums_are :
      {lows highs B : ℕ} → Summable by coefficients factors → Answered 0 lows → Answered 2 highs → B ≡ bound_of by →
      SumsOf (assessment_in by coefficients factors) lows highs B
  sums_are asked lows highs B =
      record {
        low_is = low_sum asked.capped lows ∙ sym (one-mul _);
        high_is = highs.0 ∙ sym (one-mul _);
        bound_is = B;
        low_fits = lows.1;
        high_fits = highs.1;
      }

-- The sums are small enough for their products with a concentration to be exact.
pub product_exact : {sum C product : ℕ} → sum ≤ 2 ^ 117 → C ≤ max_level → product ≡ sum * C % modulus →
    product ≡ C * sum
product_exact fits small e = exact_multiple e fits small (lit< tt) ∙ omega arith

module _ {a : Assessment} {lows highs B : ℕ} (sums : SumsOf a lows highs B) where
  -- Low and High at C are C times what they are at 1.
  pub verdict_is : (C : ℕ) {v : Verdict} → v ≡ verdict_of (C * lows) (C * highs) B → v ≡ verdict_at a C
  verdict_is C given =
      let low_sum = sum_below a.count (λ i. a.weight i * a.factor i) in
      let high_sum = sum_below a.count (λ i. a.weight i * raised i (a.factor i)) in
      rw (given, sums.low_is, sums.high_is, sums.bound_is, one-mul low_sum, one-mul high_sum)

  pub judged_is :
      (C : ℕ) {l : ℕ} {v : Verdict} → v ≡ verdict_of (C * lows) (C * highs) B → l ≡ capped_quotient max_level B highs →
      ◌≡◌ {A = Judgement} (record { verdict = v; level = l }) (judged_on a C)
  unfolding level
  judged_is C v l =
      rw (verdict_is C v, l, sums.bound_is, sums.high_is)
