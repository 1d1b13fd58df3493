-- The shares out of each member, in an array with a place for each.
use Rattle.std.specs.Prelude.{ℕ, ◌<◌, ◌^◌, ◌≡◌, List, length, get_or}
use Rattle.book.specs.Limits.{max_members}
use Rattle.book.specs.BookGrounds.{shares_out_of}

-- There is a sum for each member, and one share more fits each.
pub record SumsFit (sums : List ℕ) : Type 0 where
  pub size : length sums ≡ max_members
  pub fits : (i : ℕ) → i < max_members → get_or sums i 0 < 2 ^ 63

pub record SharesSummed (book sums : List ℕ) : Type 0 where
  pub each : (i : ℕ) → i < max_members → get_or sums i 0 ≡ shares_out_of book i
