-- What is asked of a line before its numbers are read.
use Rattle.std.specs.Prelude.{ℕ, ◌≤◌, List}
use Rattle.book.specs.Limits.{max_members}
use Rattle.marking.specs.Lines.{rate_places}

pub record Readable (n : ℕ) (line : List ℕ) : Type 0 where
  pub few : n ≤ max_members
  pub short : rate_places n line ≤ 6
