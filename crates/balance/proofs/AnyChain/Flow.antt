-- Flow: where each later member has at most its inflow and a loss β, no member has more than the parent and the losses
-- up to it. Added up, the inflows of members 1 to n are at most members 0 to n - 1, since the shares out of each are at
-- most the whole; then most of both sums cancels.
use Prim.Native.Nat.{ℕ, zero, suc, ◌+◌, ◌*◌, ◌≤◌, ◌<◌}
use native.Mathlib.Nat.{le_refl, le_trans, le-suc, mul-le-mul_right}
use native.Mathlib.Decide.{le_ind}
use native.Mathlib.Omega.{arith}
use mathlib.Core.Path.{◌≡◌}
use mathlib.Core.List.{List, [], ◌∷◌, ◌++◌}
use Rattle.book.specs.declared.feed.Feed.{Feed}
use Rattle.balance.specs.Chain.{Chain}
use Rattle.balance.specs.Sound.{FromBelow, shares_from, feeds_below, Sound}
use Rattle.balance.proofs.AnyChain.Inflow.{inflow_of, inflow_append}
use Rattle.numbers.specs.Sums.{sum_below}
use Rattle.numbers.proofs.Sums.{sum_mono, sum_scale}
use Rattle.balance.proofs.AnyChain.Origin.{inflow_by_origin}

shares_append : (i : ℕ) (feeds more : List Feed) →
    shares_from i (feeds ++ more) ≡ shares_from i feeds + shares_from i more
shares_append i [] more = omega arith
shares_append i (feed ∷ feeds) more = let ih = shares_append i feeds more in omega arith

from_below_append : (k : ℕ) (feeds more : List Feed) → FromBelow k feeds → FromBelow k more →
    FromBelow k (feeds ++ more)
from_below_append k [] more these those = those
from_below_append k (feed ∷ feeds) more these those = (these.0, from_below_append k feeds more these.1 those)

from_below_mono : {k l : ℕ} (feeds : List Feed) → k ≤ l → FromBelow k feeds → FromBelow l feeds
from_below_mono [] le below = tt
from_below_mono (feed ∷ feeds) le below = (omega (arith, below.0), from_below_mono feeds le below.1)

module _ {scale : ℕ} {chain : Chain} (sound : Sound scale chain) where
  -- The shares out of a member into the members below k are some of all.
  shares_below : (i k : ℕ) → k ≤ chain.count → i < chain.count → shares_from i (feeds_below chain k) ≤ scale
  shares_below i k le l =
      let first : ℕ → ℕ = λ m. shares_from i (feeds_below chain m) in
      let more : (m : ℕ) → k ≤ m → first k ≤ first m → first k ≤ first (suc m) =
      λ m h ih. omega (arith, shares_append i (feeds_below chain m) (chain.feeds m)) in
      le_trans (le_ind (λ m. first k ≤ first m) (le_refl _) more chain.count le) (sound.shares_out i l)

  -- Each comes from below the last member that they feed.
  feeds_from_below : (n : ℕ) → n < chain.count → FromBelow n (feeds_below chain (suc n))
  feeds_from_below zero l = sound.from_lower 0 l
  feeds_from_below (suc n) l =
      let earlier = from_below_mono (feeds_below chain (suc n)) (le-suc n) (feeds_from_below n (omega arith)) in
      from_below_append (suc n) (feeds_below chain (suc n)) (chain.feeds (suc n)) earlier (sound.from_lower (suc n) l)

  all_inflows : (a : ℕ → ℕ) (n : ℕ) → n < chain.count → inflow_of a (feeds_below chain (suc n)) ≤ scale * sum_below n a
  all_inflows a n l =
      let feeds = feeds_below chain (suc n) in
      let sorted = inflow_by_origin a n feeds (feeds_from_below n l) in
      let most : (i : ℕ) → i < n → shares_from i feeds * a i ≤ a i * scale =
      λ i h. omega (arith, mul-le-mul_right (a i) (shares_below i (suc n) l (omega arith))) in
      omega (arith, sum_mono n most, sum_scale n scale a)

  module _ (a : ℕ → ℕ) (β : ℕ) where
    -- Of the members after the first, up to n.
    abbrev pub AtMostInflow : ℕ → Type 0
    AtMostInflow n = (k : ℕ) → k < n → scale * a (suc k) ≤ inflow_of a (chain.feeds (suc k)) + β

    added_up : (n : ℕ) → AtMostInflow n →
        scale * sum_below (suc n) a ≤ scale * a 0 + inflow_of a (feeds_below chain (suc n)) + n * β
    unfolding sum_below
    added_up zero each = omega arith
    added_up (suc n) each =
        let ih = added_up n (λ k l. each k (omega arith)) in
        omega (arith, each n (omega arith), inflow_append a (feeds_below chain (suc n)) (chain.feeds (suc n)))

    pub inflow_bound :
        (n : ℕ) → suc n < chain.count → AtMostInflow n → inflow_of a (chain.feeds (suc n)) ≤ scale * a 0 + n * β
    unfolding sum_below
    inflow_bound n l each =
        let split = inflow_append a (feeds_below chain (suc n)) (chain.feeds (suc n)) in
        omega (arith, added_up n each, all_inflows a (suc n) l)

    pub member_bound : (n : ℕ) → n < chain.count → AtMostInflow n → scale * a n ≤ scale * a 0 + n * β
    member_bound zero l each = omega arith
    member_bound (suc n) l each =
        omega (arith, inflow_bound n l (λ k h. each k (omega arith)), each n (omega arith))
