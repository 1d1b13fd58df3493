-- The text of a table (document 02, R-3).
use Rattle.std.specs.Prelude.{ℕ, List, ◌++◌}
use Rattle.text.specs.Words.{ascii, decimal, line_feed, each}
use Rattle.balance.specs.Factors.{factors_at}
use Rattle.entry.specs.Entry.{entry_of}

-- A space and a member's reported factor.
abbrev pub spaced_entry : ℕ → ℕ → List ℕ
spaced_entry member factor = ascii " " ++ entry_of factor

-- The rate as whole hundredths, then the factor of each member, and a line feed last.
abbrev pub line_of : ℕ → List ℕ → List ℕ
line_of v factors = decimal v ++ each spaced_entry 0 factors ++ line_feed

-- The line of a rate, whichever of the list it is.
abbrev pub rate_line : List ℕ → ℕ → ℕ → List ℕ
rate_line book k v = line_of v (factors_at book v)

-- Per rate one line.
abbrev pub table_text : List ℕ → List ℕ → List ℕ
table_text book rates = each (rate_line book) 0 rates
