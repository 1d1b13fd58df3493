-- The decimal digits of a number, four at a time.
use Rattle.std.specs.Prelude.{ℕ, ◌+◌, ◌/◌, ◌%◌, ◌<◌, ◌≡◌, List, [], ◌∷◌, get_or}

-- The four digits of a number below 10,000, with zeros before it.
abbrev pub four_digits : ℕ → List ℕ
four_digits n = (48 + n / 1000 % 10) ∷ (48 + n / 100 % 10) ∷ (48 + n / 10 % 10) ∷ (48 + n % 10) ∷ []

-- A list with the four digits of each number below 10,000 in the number's place.
abbrev pub HoldsFourDigits : List (List ℕ) → Type 0
HoldsFourDigits list = (n : ℕ) → n < 10000 → get_or list n [] ≡ four_digits n
