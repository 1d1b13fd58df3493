-- A run's next rates.
use Rattle.std.specs.Prelude.{ℕ, ℤ, ◌*◌, ◌≤◌, ◌<◌, ◌≡◌, List, ◌++◌, length, take, drop}
use Rattle.portfolios.specs.Rows.{rows_at, answers_at}

-- The first `count` of the rates have been run: their answers and rows are there, and what stands after them is as it
-- was.
pub record NextRun
    (width : ℕ) (book rates : List ℕ) (answers : List ℤ) (rows : List ℕ)
    (count : ℕ) (answers_now : List ℤ) (rows_now : List ℕ) : Type 0 where
  pub some : 0 < count
  pub within : count ≤ length rates
  pub answered :
      answers_now ≡ answers_at width book (take count rates) (take (count * width) rows) ++ drop count answers
  pub filled :
      rows_now ≡ rows_at width book (take count rates) (take (count * width) rows) ++ drop (count * width) rows
