-- How a table prints a share (document 02, R-3): d.dddE-dd, or d.dddE+00.
use Rattle.std.specs.Prelude.{ℕ, zero, suc, ◌+◌, ◌/◌, ◌%◌, List, [], ◌∷◌, ◌++◌}
use Rattle.text.specs.Words.{ascii}

-- The last digit of a number.
abbrev pub digit : ℕ → ℕ
digit n = 48 + n % 10

-- A plus stands before 00 alone.
abbrev pub sign : ℕ → List ℕ
sign zero = ascii "+"
sign (suc e) = ascii "-"

-- The nine characters of d thousandths of 10^-e.
abbrev pub form : ℕ → ℕ → List ℕ
form d e =
    (digit (d / 1000) ∷ []) ++ ascii "." ++ (digit (d / 100) ∷ digit (d / 10) ∷ digit d ∷ [])
    ++ ascii "E" ++ sign e ++ (digit (e / 10) ∷ digit e ∷ [])
