-- What the checks of the factor call ensure of a rate, a book and a lent list, and what the fill asks of them.
use Rattle.std.specs.Prelude.{ℕ, ◌≤◌, List}
use Rattle.book.specs.Fields.{members}
use Rattle.book.specs.BookGrounds.{Accepted}
use Rattle.book.specs.Rates.{max_rate}

-- The rate is within its limit, the book is accepted, and the list has a place for each member.
pub record CallPasses (v : ℕ) (book : List ℕ) (capacity : ℕ) : Type 0 where
  pub rate : v ≤ max_rate
  pub accepted : Accepted book
  pub enough : members book ≤ capacity
