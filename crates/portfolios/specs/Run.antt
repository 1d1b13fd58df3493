-- The call: rates, a book, a row's width, a lent list of answers and a lent list of rows in.
use Rattle.std.specs.Prelude.{ℕ, ℤ, List, ◌++◌, length, take, drop}
use Rattle.portfolios.specs.Rows.{rows_at, answers_at}

-- A rate without a place for its answer is not run.
abbrev pub rates_run : List ℕ → List ℤ → List ℕ
rates_run rates answers = take (length answers) rates

-- The rows afterwards.
abbrev pub rows_left : List ℕ → List ℕ → ℕ → List ℤ → List ℕ → List ℕ
rows_left rates book width answers rows = rows_at width book (rates_run rates answers) rows

-- The answers afterwards; places past the last rate are as they were.
abbrev pub answers_left : List ℕ → List ℕ → ℕ → List ℤ → List ℕ → List ℤ
answers_left rates book width answers rows =
    answers_at width book (rates_run rates answers) rows ++ drop (length rates) answers
