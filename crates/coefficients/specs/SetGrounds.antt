-- The ground for refusing a second set (document 02, R-7).
use Rattle.std.specs.Prelude.{ℕ, Bool, not, ◌||◌, List, [], ◌∷◌, length, eqb}
use Rattle.refusals.specs.Grounds.{Ground, ground_of}
use Rattle.refusals.specs.declared.Refusal.TheVariants.{SecondSetOutOfRange}
use Rattle.numbers.specs.Tests.{some_below}
use Rattle.book.specs.Fields.{members}
use Rattle.book.specs.BookGrounds.{coefficient_too_high}
use Rattle.coefficients.specs.Sets.{group_at}

-- 23. The second set is not exactly 20n bytes or has a number over 4,000,000,000.
unfoldable pub second_set_out_of_range : List ℕ → List ℕ → Bool
second_set_out_of_range book second =
    not (eqb (length second) (group_at (members book)))
    || some_below (members book) (λ i. coefficient_too_high second (group_at i))

-- Only if it was lent.
abbrev pub set_grounds : List ℕ → List ℕ → List Ground
set_grounds book [] = []
set_grounds book (byte ∷ bytes) =
    ground_of SecondSetOutOfRange (second_set_out_of_range book (byte ∷ bytes)) ∷ []
