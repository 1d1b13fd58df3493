-- Many rates of one book (document 02, R-9): each is checked and answered as by the factor call. A list of rows has
-- `width` places for each rate in turn; a row has fewer where the list ends before, and none past its end.
use Rattle.std.specs.Prelude.{ℕ, ℤ, List, [], ◌∷◌, ◌++◌, length, take, drop}
use Rattle.refusals.specs.Grounds.{answer_number}
use Rattle.balance.specs.Factors.{factor_answer, factor_list}

-- The rows afterwards: each as the factor call leaves it at its rate.
unfoldable pub rows_at : ℕ → List ℕ → List ℕ → List ℕ → List ℕ
rows_at width book [] list = list
rows_at width book (v ∷ rates) list =
    factor_list v book (take width list) ++ rows_at width book rates (drop width list)

-- What the factor call answers at each rate for its row, as a number.
unfoldable pub answers_at : ℕ → List ℕ → List ℕ → List ℕ → List ℤ
answers_at width book [] list = []
answers_at width book (v ∷ rates) list =
    answer_number (factor_answer v book (length (take width list))) ∷ answers_at width book rates (drop width list)
