-- The lines that answers and rows make.
use Rattle.std.specs.Prelude.{ℕ, ℤ, pos, negsuc, suc, List, ◌++◌, take}
use Rattle.text.specs.Words.{ascii, decimal, line_feed}
use Rattle.lines.specs.Lines.{factors_text}

-- What stands after a rate that is answered with n is the first n places of its row; a negative answer is minus a
-- refusal's number.
abbrev pub shown : ℤ → List ℕ → List ℕ
shown (pos n) row = factors_text (take n row)
shown (negsuc n) row = ascii " refused " ++ decimal (suc n)

abbrev pub line_of : ℕ → ℤ → List ℕ → List ℕ
line_of v answer row = decimal v ++ shown answer row ++ line_feed
