-- An inflow sorted by origin: the feeds' parts, added up for each member that they leave.
-- Feed by feed: each one's part is in the sum at its own from, and the others' parts there are none the less.
use Prim.Native.Nat.{ℕ, zero, suc, ◌+◌, ◌*◌, ◌≤◌, ◌<◌}
use native.Mathlib.Nat.{le-add_left, eq-or-lt_of_le, le_of_suc-le-suc, mul-le-mul_right}
use native.Mathlib.Omega.{arith}
use mathlib.Core.Path.{◌≡◌, ap}
use mathlib.Core.Bool.{cond}
use mathlib.Core.Logic.{◌⊎◌, inl, inr}
use mathlib.Core.List.{List, [], ◌∷◌}
use lib.Dec.{eqb}
use borrow.Author.Tests.{eq-eqb}
use Rattle.numbers.specs.Sums.{sum_below}
use Rattle.numbers.proofs.Sums.{sum_mono}
use Rattle.book.specs.declared.feed.Feed.{Feed}
use Rattle.balance.specs.Sound.{FromBelow, shares_from}
use Rattle.balance.proofs.AnyChain.Inflow.{inflow_of}

-- One feed's part of a sum over the members that feeds leave.
leaving : (feed : Feed) (i : ℕ) → feed.from ≡ i → cond (eqb feed.from i) feed.share 0 ≡ feed.share
leaving feed i e = rw (eq-eqb feed.from i e)

module _ (a b : ℕ → ℕ) (feed : Feed) where
  abbrev with_feed : ℕ → ℕ
  with_feed i = (cond (eqb feed.from i) feed.share 0 + b i) * a i

  feed_in_sum : (n : ℕ) → feed.from < n →
      feed.share * a feed.from + sum_below n (λ i. b i * a i) ≤ sum_below n with_feed
  unfolding sum_below
  feed_in_sum zero l = absurd (omega arith)
  feed_in_sum (suc n) l = at_or_before (eq-or-lt_of_le (le_of_suc-le-suc l)) (feed_in_sum n)
    where
      at_or_before :
          (feed.from ≡ n) ⊎ (feed.from < n)
          → (feed.from < n → feed.share * a feed.from + sum_below n (λ i. b i * a i) ≤ sum_below n with_feed)
          → feed.share * a feed.from + (sum_below n (λ i. b i * a i) + b n * a n) ≤ sum_below n with_feed + with_feed n
      at_or_before (inl e) earlier =
          let here = ap (λ s. s * a n) (leaving feed n e) in
          let same = ap (λ j. feed.share * a j) e in
          let rest = sum_mono n {f = λ i. b i * a i} {g = with_feed} (λ k l. mul-le-mul_right (a k) (omega arith)) in
          omega arith
      at_or_before (inr l) earlier =
          omega (arith, earlier l, mul-le-mul_right (a n) (le-add_left (b n) (cond (eqb feed.from n) feed.share 0)))

-- Sorted by the member that they leave.
pub inflow_by_origin :
    (a : ℕ → ℕ) (n : ℕ) (feeds : List Feed) → FromBelow n feeds →
    inflow_of a feeds ≤ sum_below n (λ i. shares_from i feeds * a i)
inflow_by_origin a n [] below = omega arith
inflow_by_origin a n (feed ∷ feeds) below =
    let ih = inflow_by_origin a n feeds below.1 in
    omega (arith, feed_in_sum a (λ i. shares_from i feeds) feed n below.0)
