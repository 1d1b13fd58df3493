-- Feeds in the first places of an array.
use Rattle.std.specs.Prelude.{ℕ, ◌≤◌, ◌≡◌, List, map, ◌++◌, length}
use Rattle.book.specs.Limits.{max_feeds}
use Rattle.book.specs.Held.{over, feed_of}
use Rattle.book.specs.declared.feed.Feed.{Feed}

-- The feeds `done` stand in the first places, in order, and nothing is changed after them.
pub record Placed (book done : List ℕ) (before feeds : List Feed) : Type 0 where
  pub size : length before ≡ max_feeds
  pub list : feeds ≡ over (map (feed_of book) done) before

-- These feeds are added from place `start` on, up to `end`.
pub record Extended (book added : List ℕ) (start end : ℕ) (feeds feeds' : List Feed) : Type 0 where
  pub capacity : end ≤ max_feeds
  pub placed :
      (before : List Feed) (done : List ℕ) → length done ≡ start → Placed book done before feeds →
      (let all = done ++ added in (length all ≡ end) × Placed book all before feeds')
