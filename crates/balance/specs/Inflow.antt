-- What is asked of an accepted book and of the factors so far before a member's inflow is summed.
use Rattle.std.specs.Prelude.{ℕ, ◌^◌, ◌≤◌, ◌<◌, List, length}
use Rattle.book.specs.Fields.{members}
use Rattle.balance.specs.Chain.{chain_of}
use Rattle.balance.specs.Balance.{inflow}

-- There is a place for each of the book's members, i is one of them, and its inflow fits a word.
pub record Fed (book : List ℕ) (i : ℕ) (factors : List ℕ) : Type 0 where
  pub member : i < members book
  pub enough : members book ≤ length factors
  pub fits : inflow factors ((chain_of book).feeds i) < 2 ^ 64
