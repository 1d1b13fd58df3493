-- Counting the feeds of a list in an array with one place for each byte, where 2 stands for any more.
use Rattle.std.specs.Prelude.{ℕ, ◌+◌, ◌<◌, min, ◌≡◌, List, get_or}
use Rattle.book.specs.BookGrounds.{occurrences}

-- The array `after` is the array `before` with the feeds counted.
pub record Counted (before feeds after : List ℕ) : Type 0 where
  pub each : (x : ℕ) → x < 256 → min (get_or after x 0) 2 ≡ min (get_or before x 0 + occurrences x feeds) 2
