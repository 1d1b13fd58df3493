-- The lines of a text, and what a line of a table says (document 02, R-3 and R-8).
use Rattle.std.specs.Prelude.{ℕ, zero, suc, ◌+◌, ◌-◌, ◌*◌, cond, List, [], ◌∷◌, ◌++◌, length, eqb}
use Rattle.text.specs.Words.{ascii, decimal, line_feed}
use Rattle.entry.specs.declared.scaling.Share.{Share}
use Rattle.entry.specs.Form.{form}
use Rattle.printed.specs.Places.{number_at, share_at}

-- The lines of a text whose bytes so far are those of a line that is not ended yet. Each has the line feed that ends
-- it; the last may have none.
unfoldable pub lines_after : List ℕ → List ℕ → List (List ℕ)
lines_after [] [] = []
lines_after (first ∷ others) [] = (first ∷ others) ∷ []
lines_after so_far (byte ∷ bytes) =
    cond (eqb byte 10) ((so_far ++ byte ∷ []) ∷ lines_after [] bytes) (lines_after (so_far ++ byte ∷ []) bytes)

abbrev pub lines : List ℕ → List (List ℕ)
lines text = lines_after [] text

-- How R-3 writes a line of n members: the rate, then each member's number after a space, and a line feed last.
unfoldable pub spaced_shares : (ℕ → Share) → ℕ → List ℕ
spaced_shares share zero = []
spaced_shares share (suc n) =
    spaced_shares share n ++ ascii " " ++ form (share n).thousandths (share n).exponent

abbrev pub line_of : ℕ → ℕ → (ℕ → Share) → List ℕ
line_of n rate share = decimal rate ++ spaced_shares share n ++ line_feed

-- How many places a line has for the digits of its rate: all but a space and nine characters for each member, and the
-- line feed.
abbrev pub rate_places : ℕ → List ℕ → ℕ
rate_places n line = length line - (n * (1 + 9) + 1)

-- The rate, and member i's number, that stand at these places.
abbrev pub rate_in : ℕ → List ℕ → ℕ
rate_in n line = number_at line 0 (rate_places n line)

abbrev pub share_in : ℕ → List ℕ → ℕ → Share
share_in n line i = share_at line (rate_places n line + i * (1 + 9) + 1)
