-- A table's entry: a factor written as its share of G (document 02, R-3).
use Rattle.std.specs.Prelude.{ℕ, zero, suc, ◌+◌, ◌*◌, ◌^◌, cond, List, ltb}
use Rattle.rounding.specs.Nearest.{nearest}
use Rattle.balance.specs.Balance.{G}
use Rattle.text.specs.Words.{ascii}
use Rattle.entry.specs.Form.{form}

-- x / G in thousandths of 10^-e, rounded to the nearest, halves up.
abbrev pub thousandths : ℕ → ℕ → ℕ
thousandths x e = nearest (x * 10 ^ (e + 3)) G

-- The least number of five digits.
abbrev pub five_digits : ℕ
five_digits = 10000

-- The largest e up to so many for which these have no more than four digits: 0.9997 has 9,997 at e = 1, but 0.99996 has
-- 10,000 there, so its e is 0.
unfoldable pub exponent_up_to : ℕ → ℕ → ℕ
exponent_up_to zero x = 0
exponent_up_to (suc e) x = cond (ltb (thousandths x (suc e)) five_digits) (suc e) (exponent_up_to e x)

-- dd goes up to 99.
abbrev pub exponent : ℕ → ℕ
exponent x = exponent_up_to 99 x

-- Zero is 0.000E+00.
unfoldable pub entry_of : ℕ → List ℕ
entry_of zero = ascii "0.000E+00"
entry_of (suc n) = form (thousandths (suc n) (exponent (suc n))) (exponent (suc n))
