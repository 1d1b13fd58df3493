-- A product that is kept at 10,000 G tells as much as the whole one: a number of four digits, and half a unit besides,
-- comes to less.
use Prim.Native.Nat.{ℕ, ◌+◌, ◌*◌, ◌^◌, ◌≤◌, ◌<◌, min}
use native.Mathlib.Numerals.{add-one}
use native.Mathlib.Nat.{mul_assoc, le_of_lt, mul-le-mul_left, min-eq_left, min-eq_right}
use native.Mathlib.Decide.{dec_le}
use native.Mathlib.Omega.{arith}
use mathlib.Core.Path.{◌≡◌, refl, sym, ap, ◌∙◌}
use mathlib.Core.Bool.{Bool, true, false}
use lib.Dec.{leb}
use borrow.Author.Tests.{le-leb, lt-leb, leb-true, leb-false}
use Rattle.balance.specs.Balance.{G}
use Rattle.entry.specs.declared.scaling.Share.{Share}
use Rattle.entry.proofs.Places.{power_next}
use Rattle.printed.specs.Mark.{not_below, not_above}
use Rattle.printed.specs.Private.Scaled.{most_scaled}

module _ {a b c d : ℕ} (there : a ≤ b → c ≤ d) (back : c ≤ d → a ≤ b) where
  by_test : (t : Bool) → leb a b ≡ t → leb a b ≡ leb c d
  by_test true holds = rw holds (sym (le-leb c d (there (leb-true a b holds))))
  by_test false fails = rw fails (sym (lt-leb c d (over (leb c d) refl)))
    where
      over : (t : Bool) → leb c d ≡ t → d < c
      over true holds = absurd (omega (arith, back (leb-true c d holds), leb-false a b fails))
      over false h = leb-false c d h

  same_order : leb a b ≡ leb c d
  same_order = by_test (leb a b) refl

module _ (share : Share) (x : ℕ) (four : share.thousandths ≤ 9999) where
  abbrev product : ℕ
  product = x * 10 ^ (share.exponent + 3)

  pub from_below :
      leb (2 * (share.thousandths * G)) (2 * min product most_scaled + G) ≡ not_below share x 1
  from_below = same_order (λ h. omega arith) (λ h. omega arith)

  pub from_above :
      leb (2 * min product most_scaled) (2 * (share.thousandths * G) + G) ≡ not_above share x 1
  from_above = same_order (λ h. omega arith) (λ h. omega arith)

-- Ten times what is kept, kept again.
kept_again : (a k : ℕ) → 0 < k → min (min a most_scaled * k) most_scaled ≡ min (a * k) most_scaled
kept_again a k some = by_order (dec_le a most_scaled)
  where
    by_order : Dec (a ≤ most_scaled) → min (min a most_scaled * k) most_scaled ≡ min (a * k) most_scaled
    by_order (yes within) = rw (min-eq_left within) refl
    by_order (no more) =
        let over : most_scaled < a = omega arith in
        rw (min-eq_right (le_of_lt over))
        (min-eq_right (omega (arith, mul-le-mul_left most_scaled some))
        ∙ sym (min-eq_right (omega (arith, mul-le-mul_left k (le_of_lt over), mul-le-mul_left most_scaled some))))

-- So it is one place more.
pub kept_place :
    (x e : ℕ) {kept : ℕ} → kept ≡ min (x * 10 ^ (e + 3)) most_scaled →
    min (kept * 10) most_scaled ≡ min (x * 10 ^ (e + 1 + 3)) most_scaled
kept_place x e is =
    ap (λ n. min (n * 10) most_scaled) is
    ∙ kept_again (x * 10 ^ (e + 3)) 10 (omega arith)
    ∙ ap (λ n. min n most_scaled) (mul_assoc x (10 ^ (e + 3)) 10 ∙ ap (λ n. x * n) (sym next))
  where
    next : 10 ^ (e + 1 + 3) ≡ 10 ^ (e + 3) * 10
    next = rw (add-one e) (power_next e)
