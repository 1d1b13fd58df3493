-- The exact quantity lies between Low and High, and High is at most a gap above Low.
-- A member's exact factor lies between its reported one and that raised by 2i and capped at G, and sums of products
-- keep order.
use Prim.Native.Nat.{ℕ, ◌+◌, ◌*◌, ◌≤◌, ◌<◌}
use native.Mathlib.Nat.{mul-le-mul_left, min-le_left}
use native.Mathlib.Omega.{arith}
use Rattle.balance.specs.Balance.{G, raised}
use Rattle.verdict.specs.Verdict.{Assessment, low, high, gap}
use Rattle.verdict.specs.Promises.{Enclosed, exactly}
use Rattle.numbers.proofs.Sums.{sum_mono, sum_add, sum_scale}

module _ (a : Assessment) (C P : ℕ) (x : ℕ → ℕ) (e : Enclosed a.count P a.factor x) where
  exact_over_reported : (i : ℕ) → i < a.count → a.weight i * a.factor i * P ≤ a.weight i * (x i * G)
  exact_over_reported i l = omega (arith, mul-le-mul_left (a.weight i) (e.not_above i l))

  pub low_below : low a C * P ≤ exactly a x C
  low_below =
      let sums = rw (sum_scale a.count P (λ i. a.weight i * a.factor i)) at (sum_mono a.count exact_over_reported) in
      omega (arith, mul-le-mul_left C sums)

  exact_under_raised : (i : ℕ) → i < a.count → a.weight i * (x i * G) ≤ a.weight i * raised i (a.factor i) * P
  exact_under_raised i l = omega (arith, mul-le-mul_left (a.weight i) (e.at_most_raised i l))

  pub high_above : exactly a x C ≤ high a C * P
  high_above =
      let highs = λ (i : ℕ). a.weight i * raised i (a.factor i) in
      let sums = rw (sum_scale a.count P highs) at (sum_mono a.count exact_under_raised) in
      omega (arith, mul-le-mul_left C sums)

pub high_near : (a : Assessment) (C : ℕ) → high a C ≤ low a C + gap a C
high_near a C =
    let each :
    (i : ℕ) → i < a.count → a.weight i * raised i (a.factor i) ≤ a.weight i * a.factor i + 2 * i * a.weight i
    =
    λ i l. omega (arith, mul-le-mul_left (a.weight i) (min-le_left (a.factor i + 2 * i) G))
    in
    let both = sum_add a.count (λ i. a.weight i * a.factor i) (λ i. 2 * i * a.weight i) in
    let sums = rw both at (sum_mono a.count each) in
    omega (arith, mul-le-mul_left C sums)
