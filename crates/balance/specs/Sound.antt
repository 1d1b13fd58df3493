-- What grounds 17 and 18 ensure of a book, in the chain's own terms.
use Rattle.std.specs.Prelude.{ℕ, zero, suc, ◌+◌, ◌≤◌, ◌<◌, cond, List, [], ◌∷◌, ◌++◌, eqb}
use Rattle.book.specs.declared.feed.Feed.{Feed}
use Rattle.balance.specs.Chain.{Chain}

-- Every feed comes from a member below k.
abbrev pub FromBelow : ℕ → List Feed → Type 0
FromBelow k [] = Unit {0}
FromBelow k (feed ∷ feeds) = (feed.from < k) × FromBelow k feeds

-- The shares of these feeds that leave member i.
abbrev pub shares_from : ℕ → List Feed → ℕ
shares_from i [] = 0
shares_from i (feed ∷ feeds) = cond (eqb feed.from i) feed.share 0 + shares_from i feeds

-- The feeds into the members below k.
abbrev pub feeds_below : Chain → ℕ → List Feed
feeds_below chain zero = []
feeds_below chain (suc k) = feeds_below chain k ++ chain.feeds k

-- A member is fed by lower ones alone, and the shares out of each add up to at most the scale.
pub record Sound (scale : ℕ) (chain : Chain) : Type 0 where
  pub from_lower : (k : ℕ) → k < chain.count → FromBelow k (chain.feeds k)
  pub shares_out : (i : ℕ) → i < chain.count → shares_from i (feeds_below chain chain.count) ≤ scale
