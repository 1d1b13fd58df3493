-- The coefficients in use (document 02, R-7): the book's own, or a second set that is lent beside it.
use Rattle.std.specs.Prelude.{ℕ, ◌*◌, List, [], ◌∷◌}
use Rattle.book.specs.Limits.{max_members}
use Rattle.book.specs.Fields.{coefficient_count, coefficient_at, coefficient}
use Rattle.coefficients.specs.declared.set.CoefficientSet.{CoefficientSet}

-- A second set has a group of five numbers for each member, in the member's order and widths.
abbrev pub group_length : ℕ
group_length = 4 * coefficient_count

abbrev pub group_at : ℕ → ℕ
group_at i = group_length * i

-- The most bytes that an accepted set has; one more is all that a program need read of a set.
abbrev pub longest_set : ℕ
longest_set = group_at max_members

-- No bytes means not lent. What is lent is the set in use, whatever its numbers are.
abbrev pub set_in_use : List ℕ → CoefficientSet
set_in_use [] = CoefficientSet.Book
set_in_use (_ ∷ _) = CoefficientSet.Second

-- The number by which an answer names it.
abbrev pub set_number : CoefficientSet → ℕ
set_number CoefficientSet.Book = 1
set_number CoefficientSet.Second = 2

-- A member's numbers in a set.
abbrev pub coefficient_in : CoefficientSet → List ℕ → List ℕ → ℕ → ℕ → ℕ
coefficient_in CoefficientSet.Book book second i = coefficient book i
coefficient_in CoefficientSet.Second book second i = coefficient_at second (group_at i)

-- And in the set in use.
abbrev pub coefficient_in_use : List ℕ → List ℕ → ℕ → ℕ → ℕ
coefficient_in_use book second = coefficient_in (set_in_use second) book second
