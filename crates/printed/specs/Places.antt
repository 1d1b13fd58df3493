-- A number of a printed table, read back at the places of R-3's form, d.dddE-dd (document 02, R-8).
use Rattle.std.specs.Prelude.{ℕ, zero, suc, ◌+◌, ◌-◌, ◌*◌, Bool, ◌&&◌, ◌||◌, List, eqb, leb}
use Rattle.numbers.specs.Bytes.{u8_at}
use Rattle.entry.specs.declared.scaling.Share.{Share}

-- The digit that a byte writes, if it writes one: '0' is 48.
abbrev pub digit_at : List ℕ → ℕ → ℕ
digit_at bytes at = u8_at bytes at - 48

-- The number that so many digits from an offset write, whatever stands there: only where it is written again as the
-- same bytes do they write it.
unfoldable pub number_at : List ℕ → ℕ → ℕ → ℕ
number_at bytes at zero = 0
number_at bytes at (suc k) = number_at bytes at k * 10 + digit_at bytes (at + k)

-- The d thousandths of 10^-e of the nine characters from an offset on, d.dddE-dd.
abbrev pub share_at : List ℕ → ℕ → Share
share_at bytes at =
    record {
      thousandths = number_at bytes at 1 * 1000 + number_at bytes (at + 2) 3;
      exponent = number_at bytes (at + 7) 2;
    }

-- Zero, which is 0.000E+00, or a number with a first digit of 1 to 9 and an exponent of two digits.
abbrev pub of_form : Share → Bool
of_form share =
    (eqb share.thousandths 0 && eqb share.exponent 0)
    || (leb 1000 share.thousandths && leb share.thousandths 9999 && leb share.exponent 99)
