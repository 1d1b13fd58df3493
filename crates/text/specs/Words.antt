-- Words, numbers and lines as lists of bytes.
use Rattle.std.specs.Prelude.{ℕ, zero, suc, ◌+◌, ◌/◌, ◌%◌, cond, List, [], ◌∷◌, ◌++◌, ltb}
use Prim.Native.Char.{code}
use Prim.Native.String.{String}
use Prim.Native.String as S

-- The codes of a word's characters.
abbrev pub ascii : String → List ℕ
ascii S.[] = []
ascii (S.◌∷◌ c s) = code c ∷ ascii s

-- A number in decimal without leading zeros, of at most so many digits and one.
abbrev pub decimal_up_to : ℕ → ℕ → List ℕ
decimal_up_to zero n = (48 + n) ∷ []
decimal_up_to (suc more) n = cond (ltb n 10) ((48 + n) ∷ []) (decimal_up_to more (n / 10) ++ ((48 + n % 10) ∷ []))

-- No number of 64 bits has more decimal digits.
abbrev pub most_digits : ℕ
most_digits = 20

unfoldable pub decimal : ℕ → List ℕ
decimal n = decimal_up_to 19 n

abbrev pub line_feed : List ℕ
line_feed = 10 ∷ []

-- A word, a number, a line feed.
abbrev pub numbered : List ℕ → ℕ → List ℕ
numbered word n = word ++ decimal n ++ line_feed

abbrev pub line : String → ℕ → List ℕ
line word n = numbered (ascii word) n

-- A piece of text for each item in turn, made of the item's number, counted from k, and the item.
abbrev pub each : (ℕ → ℕ → List ℕ) → ℕ → List ℕ → List ℕ
each piece k [] = []
each piece k (item ∷ items) = piece k item ++ each piece (suc k) items
