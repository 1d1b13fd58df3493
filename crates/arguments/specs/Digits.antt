-- The number that a word of digits writes. One that does not fit a u32 stands as the highest that does, so that whoever
-- limits a number refuses it too.
use Rattle.std.specs.Prelude.{ℕ, ◌+◌, ◌-◌, ◌*◌, ◌&&◌, Bool, true, nat_le, min, cond, List, [], ◌∷◌, Some, None, Option}

-- '0' is 48, '9' is 57.
abbrev pub is_digit : ℕ → Bool
is_digit byte = nat_le 48 byte && nat_le byte 57

abbrev pub all_digits : List ℕ → Bool
all_digits [] = true
all_digits (byte ∷ word) = is_digit byte && all_digits word

-- What the digits write after those that wrote `so_far`.
abbrev pub written : ℕ → List ℕ → ℕ
written so_far [] = so_far
written so_far (byte ∷ word) = written (so_far * 10 + (byte - 48)) word

abbrev pub highest : ℕ
highest = 4294967295

-- At least one digit, and nothing else.
abbrev pub number_written : List ℕ → Option ℕ
number_written [] = None
number_written (byte ∷ word) = cond (all_digits (byte ∷ word)) (Some (min (written 0 (byte ∷ word)) highest)) None
