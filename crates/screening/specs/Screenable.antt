-- A verdict at a rate, for a job that has passed its checks.
use Rattle.std.specs.Prelude.{ℕ, ◌≤◌, List}
use Rattle.book.specs.BookGrounds.{Accepted}
use Rattle.book.specs.Rates.{max_rate}
use Rattle.reading.specs.Reading.{max_concentration}
use Rattle.verdict.specs.Verdict.{max_target}
use Rattle.verdict.specs.declared.verdict.Criterion.{Criterion}

-- What a room is judged by, and its concentration, are within their limits.
pub record Judgeable (by : Criterion) (C : ℕ) : Type 0 where
  pub target : by.target ≤ max_target
  pub concentration : C ≤ max_concentration

-- What is asked before it is worked out: numbers within their limits, and an accepted book.
pub record Screenable (by : Criterion) (v C : ℕ) (book : List ℕ) : Type 0 where
  pub target : by.target ≤ max_target
  pub rate : v ≤ max_rate
  pub concentration : C ≤ max_concentration
  pub accepted : Accepted book
