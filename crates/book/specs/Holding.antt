-- What the arrays of a held chain have in them:
-- member i's feeds stand from the end of member i - 1's on, up to its own end.
use Rattle.std.specs.Prelude.{ℕ, List, map, replicate, ◌≡◌}
use Rattle.book.specs.Limits.{max_members, max_feeds}
use Rattle.book.specs.Fields.{half_life}
use Rattle.book.specs.Held.{member_places, filled, over, feed_of, feeds_in_order, feeds_end}
use Rattle.book.specs.declared.feed.Feed.{Feed}

abbrev pub no_feeds : List Feed
no_feeds = replicate max_feeds (record { share = 0; from = 0 })

pub record Holding (book : List ℕ) (members : ℕ) (half_lives ends : List ℕ) (feeds : List Feed) : Type 0 where
  pub count : members ≡ member_places book
  pub half_life_array : half_lives ≡ filled (member_places book) (half_life book) (replicate max_members 0)
  pub end_array : ends ≡ filled (member_places book) (feeds_end book) (replicate max_members 0)
  pub feed_array : feeds ≡ over (map (feed_of book) (feeds_in_order book (member_places book))) no_feeds
