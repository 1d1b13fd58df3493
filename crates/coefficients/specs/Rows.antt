-- What a room is screened by besides its chain, read once.
use Rattle.std.specs.Prelude.{ℕ, List, replicate}
use Rattle.book.specs.Limits.{max_members}
use Rattle.book.specs.Fields.{members, working_level_divisor, coefficient_count, five}
use Rattle.book.specs.Held.{filled}
use Rattle.coefficients.specs.Sets.{set_in_use, coefficient_in_use}
use Rattle.coefficients.specs.declared.rows.NumbersInUse.{NumbersInUse}

-- The numbers in use, a row a member, in the first places of an array of zeros.
abbrev pub row_in_use : List ℕ → List ℕ → ℕ → List ℕ
row_in_use book second i = five (coefficient_in_use book second i)

abbrev pub rows_in_use : List ℕ → List ℕ → List (List ℕ)
rows_in_use book second =
    filled (members book) (row_in_use book second) (replicate max_members (replicate coefficient_count 0))

-- With the count of members, the set that they are of, and W, which is always the book's.
abbrev pub numbers_in_use : List ℕ → List ℕ → NumbersInUse
numbers_in_use book second =
    record {
      set = set_in_use second;
      members = members book;
      rows = rows_in_use book second;
      divisor = working_level_divisor book;
    }
