-- A verdict tells the truth of the exact quantity. It says that High is at most B, that Low is more, or neither;
-- the exact quantity lies between the two, and they are at most a gap apart.
use Prim.Native.Nat.{ℕ, ◌+◌, ◌*◌, ◌≤◌, ◌<◌}
use native.Mathlib.Nat.{le_refl, le_of_lt, le_trans, lt_of_lt_of_le, add-le-add, add-mul}
use native.Mathlib.Nat.{mul-le-mul_right, mul-lt-mul_of_pos_right}
use mathlib.Core.Path.{◌≡◌}
use Rattle.verdict.specs.Verdict.{Assessment, low, high, gap, verdict_at}
use Rattle.verdict.specs.Promises.{Enclosed, exactly, VerdictPromise}
use Rattle.verdict.specs.declared.verdict.Verdict.{Verdict}
use Rattle.verdict.specs.declared.verdict.Verdict.TheVariants.{Below, Close, Above}
use Rattle.verdict.proofs.Verdicts.{Says, says}
use Rattle.verdict.proofs.Sandwich.{low_below, high_above, high_near}

module _ (a : Assessment) (C P : ℕ) (x : ℕ → ℕ) (enclosed : Enclosed a.count P a.factor x) where
  said : {v : Verdict} → verdict_at a C ≡ v → Says (low a C) (high a C) a.bound v
  said = says (low a C) (high a C) a.bound

  not_over : (bound : ℕ) → high a C ≤ bound → exactly a x C ≤ bound * P
  not_over bound h = le_trans (high_above a C P x enclosed) (mul-le-mul_right P h)

  below_target : verdict_at a C ≡ Below → exactly a x C ≤ a.bound * P
  below_target e = not_over a.bound (said e)

  above_target : 0 < P → verdict_at a C ≡ Above → a.bound * P < exactly a x C
  above_target pos e = lt_of_lt_of_le (mul-lt-mul_of_pos_right (said e).1 pos) (low_below a C P x enclosed)

  close_under_target : verdict_at a C ≡ Close → exactly a x C ≤ (a.bound + gap a C) * P
  close_under_target e = not_over (a.bound + gap a C) (le_trans (high_near a C) (add-le-add (said e).1 (le_refl _)))

  close_over_target : verdict_at a C ≡ Close → a.bound * P ≤ exactly a x C + gap a C * P
  close_over_target e =
      le_trans
      (mul-le-mul_right P (le_trans (le_of_lt (said e).0) (high_near a C)))
      (rw (add-mul (low a C) (gap a C) P) (add-le-add (low_below a C P x enclosed) (le_refl _)))

  pub verdict_promise : 0 < P → VerdictPromise a P x C (verdict_at a C)
  verdict_promise pos =
      record {
        below = below_target;
        above = above_target pos;
        close_under = close_under_target;
        close_over = close_over_target;
      }
