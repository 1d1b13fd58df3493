-- The conversion of one figure at any multiplier: what the conversion's private functions answer. No public contract
-- names these.
use Rattle.std.specs.Prelude.{ℕ, ◌+◌, ◌-◌, ◌*◌, ◌/◌, ◌%◌, ◌^◌, min, cond, ltb, eqb, Float, Result, Ok, Err}
use Rattle.reading.specs.declared.error.ReadingError.{ReadingError}
use Rattle.reading.specs.Reading.{unusable, numerator_of, denominator_of, rounded_up, max_concentration}

-- The exponent of a pattern whose sign bit is clear stands above 52 bits of fraction.
abbrev pub exponent_of : ℕ → ℕ
exponent_of bits = bits / 2 ^ 52

-- The digits of a pattern, with the leading one that a normal number leaves out.
abbrev pub significand_of : ℕ → ℕ
significand_of bits = cond (eqb (exponent_of bits) 0) (bits % 2 ^ 52) (2 ^ 52 + bits % 2 ^ 52)

-- From this exponent on the value is at least 2^32, which is too large in every unit.
abbrev pub too_large_exponent : ℕ
too_large_exponent = 1055

-- Below it the value is the significand over a power of two of at least so many places.
abbrev pub least_places : ℕ
least_places = 21

-- The significand's product with a multiplier, over the least places, is below 2^60, so places beyond 60 more change
-- nothing.
abbrev pub most_places : ℕ
most_places = 60

-- The places beyond the least. Exponent 0 has as many as exponent 1.
abbrev pub other_places : ℕ → ℕ
other_places bits = min most_places (too_large_exponent - 2 - (exponent_of bits - 1))

-- The figure times the multiplier, rounded up.
unfoldable pub converted : Float → ℕ → ℕ
converted x multiplier = rounded_up (numerator_of x * multiplier) (denominator_of x)

abbrev pub capped : ℕ → Result ℕ ReadingError
capped number = cond (ltb max_concentration number) (Err ReadingError.TooLarge) (Ok number)

abbrev pub converted_answer : Float → ℕ → Result ℕ ReadingError
converted_answer x multiplier = cond (unusable x) (Err ReadingError.Unusable) (capped (converted x multiplier))
