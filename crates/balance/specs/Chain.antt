-- What an accepted book means, free of bytes.
use Rattle.std.specs.Prelude.{ℕ, List, map}
use Rattle.book.specs.Fields.{members, half_life, feeds_of}
use Rattle.book.specs.Held.{feed_of}
use Rattle.book.specs.declared.feed.Feed.{Feed}

-- Members 0 (the parent gas) to count - 1, each with its half-life in ns and the feeds into it. A feed has its share of
-- the factor of the member that it comes from.
pub record Chain : Type 0 where
  pub count : ℕ
  pub half_life : ℕ → ℕ
  pub feeds : ℕ → List Feed

abbrev pub chain_of : List ℕ → Chain
chain_of book =
    record { count = members book; half_life = half_life book; feeds = λ i. map (feed_of book) (feeds_of book i) }
