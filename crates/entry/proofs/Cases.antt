-- An entry by its two cases.
use Prim.Native.Nat.{ℕ, zero, suc, ◌<◌}
use native.Mathlib.Omega.{arith}
use mathlib.Core.Path.{◌≡◌, refl, sym, ap, ap₂, ◌∙◌}
use Rattle.text.specs.Words.{ascii}
use Rattle.entry.specs.Form.{form}
use Rattle.entry.specs.Entry.{thousandths, exponent, entry_of}

pub of_zero : (x : ℕ) → x ≡ 0 → entry_of x ≡ ascii "0.000E+00"
unfolding entry_of
of_zero zero none = refl
of_zero (suc n) none = absurd (omega arith)

pub of_some : (x : ℕ) → 0 < x → entry_of x ≡ form (thousandths x (exponent x)) (exponent x)
unfolding entry_of
of_some zero some = absurd (omega arith)
of_some (suc n) some = refl

-- From the four digits and the exponent of what is shown.
pub of_parts :
    {x shown d e : ℕ} → 0 < x → shown ≡ x → e ≡ exponent shown → d ≡ thousandths shown (exponent shown) →
    form d e ≡ entry_of x
of_parts {x} some is places digits =
    ap₂ form digits places ∙ ap (λ s. form (thousandths s (exponent s)) (exponent s)) is ∙ sym (of_some x some)
