-- The mark of a printed number (document 02, R-8).
use Rattle.std.specs.Prelude.{ℕ, ◌+◌, ◌*◌, ◌^◌, cond, Bool, not, ◌&&◌, ◌||◌, leb}
use Rattle.balance.specs.Balance.{G}
use Rattle.entry.specs.declared.scaling.Share.{Share}
use Rattle.printed.specs.declared.mark.Mark.{Mark}
use Rattle.printed.specs.declared.mark.Mark.TheVariants.{Right, Close, Wrong}

-- The number is d thousandths of 10^-e of G, and a unit of its last printed place is G / 10^(e + 3). A point of p / q
-- grains is within half a unit where it is not more than that below the number, and not more than that above it. Ends
-- count, and both comparisons are multiplied out.
abbrev pub not_below : Share → ℕ → ℕ → Bool
not_below share p q =
    leb (2 * share.thousandths * q * G) (2 * p * 10 ^ (share.exponent + 3) + q * G)

abbrev pub not_above : Share → ℕ → ℕ → Bool
not_above share p q =
    leb (2 * p * 10 ^ (share.exponent + 3)) ((2 * share.thousandths + 1) * q * G)

abbrev pub within : Share → ℕ → ℕ → Bool
within share p q = not_below share p q && not_above share p q

-- Of the interval from low to high grains. 'Right': the whole of it is within, which its two ends show. 'Wrong': no
-- point of it is, since all of it is below or all of it above. Otherwise 'close'.
unfoldable pub mark_of : Share → ℕ → ℕ → Mark
mark_of share low high =
    cond (within share low 1 && within share high 1) Right
    (cond (not (not_below share high 1) || not (not_above share low 1)) Wrong Close)
