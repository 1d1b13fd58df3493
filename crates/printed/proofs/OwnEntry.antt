-- What R-3 writes for a factor is never marked wrong: the number is the nearest of the form, so that the factor is
-- within half a unit of its last place; and the factor is a point of every interval that begins there.
use Prim.Native.Nat.{ℕ, zero, suc, ◌+◌, ◌*◌, ◌^◌, ◌≤◌, ◌<◌}
use native.Mathlib.Omega.{arith}
use mathlib.Core.Path.{◌≡◌, refl, sym, ◌∙◌}
use mathlib.Core.Bool.{true, true≢false}
use borrow.Author.Tests.{le-leb}
use Rattle.balance.specs.Balance.{G}
use Rattle.entry.specs.declared.scaling.Share.{Share}
use Rattle.entry.specs.Form.{form}
use Rattle.entry.specs.Entry.{thousandths, exponent, entry_of}
use Rattle.entry.proofs.Places.{turn}
use Rattle.entry.proofs.Promised.{share_rounded, turned}
use Rattle.printed.specs.Places.{of_form}
use Rattle.printed.specs.Mark.{within, mark_of}
use Rattle.printed.specs.declared.mark.Mark.TheVariants.{Wrong}
use Rattle.printed.proofs.OfForm.{printable_is}
use Rattle.printed.proofs.Points.{at_low}
use Rattle.printed.proofs.Promised.{mark_promise}

-- The number that is written. Zero is 0.000E+00.
unfoldable pub own_share : ℕ → Share
own_share zero = record { thousandths = 0; exponent = 0 }
own_share (suc n) = record { thousandths = thousandths (suc n) (exponent (suc n)); exponent = exponent (suc n) }

pub own_entry : (x : ℕ) → entry_of x ≡ form (own_share x).thousandths (own_share x).exponent
unfolding own_share entry_of
own_entry zero = refl
own_entry (suc n) = refl

pub own_of_form : (x : ℕ) → x ≤ G → of_form (own_share x) ≡ true
unfolding own_share
own_of_form zero whole = refl
own_of_form (suc n) whole =
    printable_is (record { thousandths = thousandths (suc n) (exponent (suc n)); exponent = exponent (suc n) })
    (turned (turn (omega arith) whole)).printable

-- Half a unit is what rounding to the nearest leaves.
rounded_within :
    (share : Share) (x : ℕ) → 2 * (share.thousandths * G) ≤ 2 * (x * 10 ^ (share.exponent + 3)) + G →
    2 * (x * 10 ^ (share.exponent + 3)) < 2 * (share.thousandths * G) + G → within share x 1 ≡ true
rounded_within share x above below =
    rw (le-leb (2 * share.thousandths * 1 * G) (2 * x * 10 ^ (share.exponent + 3) + 1 * G) (omega arith))
    (le-leb _ _ (omega arith))

own_within : (x : ℕ) → x ≤ G → within (own_share x) x 1 ≡ true
unfolding own_share
own_within zero whole = refl
own_within (suc n) whole =
    let rounded = share_rounded (turn (omega arith) whole) in
    rounded_within (record { thousandths = thousandths (suc n) (exponent (suc n)); exponent = exponent (suc n) })
    (suc n) rounded.above rounded.below

pub own_never_wrong : (x high : ℕ) → x ≤ G → x ≤ high → mark_of (own_share x) x high ≡ Wrong → ⊥
own_never_wrong x high whole le wrong =
    true≢false (sym (own_within x whole) ∙ (mark_promise (own_share x) x high le).wrong wrong x 1 (at_low le))
