-- A book with a second set written over its own.
use Rattle.std.specs.Prelude.{ℕ, zero, suc, ◌+◌, List, ◌++◌, length, take, drop}
use Rattle.book.specs.Fields.{members, first_coefficient}
use Rattle.coefficients.specs.Sets.{group_length, group_at}

-- A list with these bytes in the place of those from `at` on.
abbrev pub bytes_over : ℕ → List ℕ → List ℕ → List ℕ
bytes_over at bytes list = take at list ++ bytes ++ drop (at + length bytes) list

-- Member i's group of a second set.
abbrev pub group : List ℕ → ℕ → List ℕ
group second i = take group_length (drop (group_at i) second)

-- The book in which the groups of the first members stand in the place of their own numbers.
unfoldable pub groups_over : List ℕ → List ℕ → ℕ → List ℕ
groups_over second book zero = book
groups_over second book (suc i) = bytes_over (first_coefficient i) (group second i) (groups_over second book i)

abbrev pub written_over : List ℕ → List ℕ → List ℕ
written_over second book = groups_over second book (members book)
