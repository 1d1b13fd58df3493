-- Minutes one after the other, of any scale and rates. The first minute of a shut room leaves no
-- factor lower than it was, and a minute keeps the order of two lists; so at one rate no minute does.
-- And each minute keeps every factor below the exact steady one.
use Prim.Native.Nat.{ℕ, zero, suc, ◌+◌, ◌*◌, ◌≤◌, ◌<◌}
use native.Mathlib.Nat.{le_refl, le_trans, add-zero, add-suc}
use native.Mathlib.Decide.{le_ind}
use native.Mathlib.Omega.{arith}
use mathlib.Core.Path.{◌≡◌, refl, ap, ◌∙◌}
use mathlib.Core.List.{List}
use lib.ListN.{length, get_or, replicate}
use Rattle.balance.specs.Chain.{Chain}
use Rattle.balance.specs.Sound.{Sound}
use Rattle.balance.specs.Balance.{G}
use Rattle.balance.specs.Exact.{numerators, denominator}
use Rattle.balance.proofs.AnyChain.Equations.{ExactFactors, exact_solves}
use Rattle.balance.proofs.AnyChain.MemberOrder.{made_parent}
use Rattle.minutes.specs.Minutes.{minute, start, minutes}
use Rattle.minutes.specs.Promises.{MinutePromise}
use Rattle.minutes.proofs.MinuteEquations.{aged_rises, aged_stays_below}
use Rattle.minutes.proofs.Minute.{renewing, renewed_ages, minute_is_renewed, minute_length}

zeros : (n k : ℕ) → ◌≡◌ {A = ℕ} (get_or (replicate n 0) k 0) 0
zeros zero k = refl
zeros (suc n) zero = refl
zeros (suc n) (suc k) = zeros n k

-- At the start every member but the parent is at 0.
pub start_below : (last P : ℕ) (x : ℕ → ℕ) → x 0 ≡ P → (k : ℕ) → P * get_or (start last) k 0 ≤ G * x k
start_below last P x parent zero = omega (arith, ap (λ t. G * t) parent)
start_below last P x parent (suc k) = rw (zeros last k) (omega arith)

module _ {scale : ℕ} {chain : Chain} (pos : 0 < scale) (sound : Sound scale chain) (last : ℕ)
    (l : last < chain.count) where
  start_rises : (rate : ℕ → ℕ) (k : ℕ) → k ≤ last →
      get_or (start last) k 0 ≤ get_or (minute scale chain rate last (start last)) k 0
  start_rises rate zero le =
      rw (
        minute_is_renewed scale chain rate last (start last) 0 le,
        made_parent chain (renewing scale chain rate (start last)),
      ) (le_refl G)
  start_rises rate (suc k) le = rw (zeros last k) (omega arith)

  minute_rises :
      (rate : ℕ → ℕ) (old older : List ℕ) → ((k : ℕ) → k ≤ last → get_or old k 0 ≤ get_or older k 0) →
      (k : ℕ) → k ≤ last →
      get_or (minute scale chain rate last old) k 0 ≤ get_or (minute scale chain rate last older) k 0
  minute_rises rate old older begins k le =
      rw (minute_is_renewed scale chain rate last old k le, minute_is_renewed scale chain rate last older k le)
      (aged_rises pos sound last l (renewed_ages scale chain rate sound last l old)
      (renewed_ages scale chain rate sound last l older) begins k le)

  minutes_rise :
      (rate : ℕ → ℕ) (m k : ℕ) → k ≤ last →
      get_or (minutes scale chain rate last m (start last)) k 0
      ≤ get_or (minutes scale chain rate last (suc m) (start last)) k 0
  unfolding minutes
  minutes_rise rate zero k le = start_rises rate k le
  minutes_rise rate (suc m) k le = minute_rises rate _ _ (minutes_rise rate m) k le

  -- So after more minutes no factor is lower.
  pub minutes_order :
      (rate : ℕ → ℕ) (m more k : ℕ) → m ≤ more → k ≤ last →
      get_or (minutes scale chain rate last m (start last)) k 0
      ≤ get_or (minutes scale chain rate last more (start last)) k 0
  minutes_order rate m more k longer le =
      le_ind
      (λ j. get_or (minutes scale chain rate last m (start last)) k 0
      ≤ get_or (minutes scale chain rate last j (start last)) k 0)
      (le_refl _)
      (λ j h ih. le_trans ih (minutes_rise rate j k le))
      more
      longer

  -- From the exact steady factors at rates, of members 0 to i, and at rates that are no lower.
  module _ {rate higher : ℕ → ℕ} (rises : (k : ℕ) → rate k ≤ higher k) (i : ℕ) (within : i ≤ last) where
    module _ {P : ℕ} {x : ℕ → ℕ} (exact : ExactFactors scale chain rate i P x) where
      minute_below :
          (old : List ℕ) → ((k : ℕ) → k ≤ i → P * get_or old k 0 ≤ G * x k) →
          (k : ℕ) → k ≤ i → P * get_or (minute scale chain higher last old) k 0 ≤ G * x k
      minute_below old begins k le =
          let here : i < chain.count = omega arith in
          rw (minute_is_renewed scale chain higher last old k (omega arith))
          (aged_stays_below pos sound i here rises exact (renewed_ages scale chain higher sound i here old) begins k le)

      pub minutes_below :
          (factors : List ℕ) → ((k : ℕ) → k ≤ i → P * get_or factors k 0 ≤ G * x k) →
          (m k : ℕ) → k ≤ i → P * get_or (minutes scale chain higher last m factors) k 0 ≤ G * x k
      unfolding minutes
      minutes_below factors begins zero = begins
      minutes_below factors begins (suc m) = minute_below _ (minutes_below factors begins m)

  pub minute_promise : (rate : ℕ → ℕ) (k i : ℕ) → i ≤ last → MinutePromise scale chain rate last k i
  minute_promise rate k i within =
      let P = denominator scale chain rate i in
      let x : ℕ → ℕ = λ j. get_or (numerators scale chain rate i) j 0 in
      let exact : ExactFactors scale chain rate i P x = exact_solves scale chain rate sound i (omega arith) in
      let begins = start_below last P x exact.parent in
      let below = minutes_below (λ j. le_refl (rate j)) i within exact (start last) (λ j h. begins j) k i (le_refl i) in
      record { not_lower = minutes_rise rate k i within; not_above_steady = omega arith }

module _ (scale : ℕ) (chain : Chain) (rate : ℕ → ℕ) (last : ℕ) where
  -- Some minutes and then some more are their sum.
  pub minutes_added :
      (k m : ℕ) (factors : List ℕ) →
      minutes scale chain rate last m (minutes scale chain rate last k factors)
      ≡ minutes scale chain rate last (k + m) factors
  unfolding minutes
  minutes_added k zero factors = rw (add-zero k) refl
  minutes_added k (suc m) factors = rw (add-suc k m) (ap (minute scale chain rate last) (minutes_added k m factors))

  pub minutes_length : (m : ℕ) (factors : List ℕ) → length factors ≡ suc last →
      length (minutes scale chain rate last m factors) ≡ suc last
  unfolding minutes
  minutes_length zero factors size = size
  minutes_length (suc m) factors size = minute_length scale chain rate last _

  pub minutes_parent : (m : ℕ) (factors : List ℕ) → get_or factors 0 0 ≡ G →
      get_or (minutes scale chain rate last m factors) 0 0 ≡ G
  unfolding minutes
  minutes_parent zero factors first = first
  minutes_parent (suc m) factors first =
      minute_is_renewed scale chain rate last _ 0 (omega arith)
      ∙ made_parent chain (renewing scale chain rate (minutes scale chain rate last m factors))
