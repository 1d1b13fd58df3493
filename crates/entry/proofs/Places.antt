-- A factor's share is scaled by ten as long as it keeps four digits. Where one place more would give five, so would
-- every finer one: there is one such exponent, and the definition's is it. A factor is at least one grain, so no more
-- than 13 places are passed.
use Prim.Native.Nat.{ℕ, zero, suc, ◌+◌, ◌*◌, ◌^◌, ◌≤◌, ◌<◌}
use native.Mathlib.Nat.{pow-suc, pow-le-pow_right, mul-le-mul_left, le_trans, le_antisymm}
use native.Mathlib.Decide.{dec_le, dec_lt}
use native.Mathlib.Numerals.{add-one}
use native.Mathlib.Omega.{arith}
use mathlib.Core.Path.{◌≡◌, refl, ap, ◌∙◌}
use borrow.Author.Tests.{lt-ltb, le-ltb}
use Rattle.rounding.specs.Nearest.{nearest}
use Rattle.rounding.proofs.Between.{nearest_between, nearest_rises}
use Rattle.balance.specs.Balance.{G}
use Rattle.entry.specs.Entry.{five_digits, thousandths, exponent_up_to, exponent}

pub power_next : (e : ℕ) → 10 ^ (suc e + 3) ≡ 10 ^ (e + 3) * 10
power_next e = let n : suc e + 3 ≡ suc (e + 3) = omega arith in rw n (pow-suc 10 (e + 3))

finer_has_more : (x : ℕ) {e k : ℕ} → e ≤ k → thousandths x e ≤ thousandths x k
finer_has_more x le =
    nearest_rises G (omega arith) (mul-le-mul_left x (pow-le-pow_right {n = 10} (omega arith) (omega arith)))

-- At the exponent there are no more than four digits, and one place more gives five.
pub record Turn (x e : ℕ) : Type 0 where
  pub four : thousandths x e < five_digits
  pub five : five_digits ≤ thousandths x (suc e)
  pub within : e ≤ 99

-- There is one such exponent only, since a finer one has no fewer digits.
no_later : {x e k : ℕ} → Turn x e → Turn x k → e ≤ k
no_later {x} {e} {k} s t = by_order (dec_le e k)
  where
    by_order : Dec (e ≤ k) → e ≤ k
    by_order (yes l) = l
    by_order (no h) = absurd (omega (arith, s.four, t.five, finer_has_more x {e = suc k} {k = e} (omega arith)))

turn_only : {x e k : ℕ} → Turn x e → Turn x k → e ≡ k
turn_only s t = le_antisymm (no_later s t) (no_later t s)

-- And the definition's is such a one.
module _ {x : ℕ} (some : 0 < x) (whole : x ≤ G) where
  turn_up_to : (n : ℕ) → n ≤ 99 → five_digits ≤ thousandths x (suc n) → Turn x (exponent_up_to n x)
  unfolding exponent_up_to
  turn_up_to zero few five =
      record {
        four = omega (arith, (nearest_between (x * 1000) G (omega arith)).above);
        five = five;
        within = omega arith;
      }
  turn_up_to (suc n) few five = by_digits (dec_lt (thousandths x (suc n)) five_digits) (turn_up_to n (omega arith))
    where
      by_digits :
          Dec (thousandths x (suc n) < five_digits) →
          (five_digits ≤ thousandths x (suc n) → Turn x (exponent_up_to n x)) → Turn x (exponent_up_to (suc n) x)
      by_digits (yes four) lower =
          rw (lt-ltb (thousandths x (suc n)) five_digits four) (record { four = four; five = five; within = few })
      by_digits (no more) lower = rw (le-ltb (thousandths x (suc n)) five_digits (omega arith)) (lower (omega arith))

  -- Even one grain has five digits at 14 places, and so at 100.
  pub turn : Turn x (exponent x)
  turn =
      let grain : five_digits ≤ thousandths x 14 =
      omega (arith, (nearest_between (x * 10 ^ 17) G (omega arith)).below)
      in
      turn_up_to 99 (omega arith) (le_trans grain (finer_has_more x {e = 14} {k = 100} (omega arith)))

pub record Scaling (x scaled e : ℕ) : Type 0 where
  pub some : 0 < x
  pub whole : x ≤ G
  pub is : scaled ≡ x * 10 ^ (e + 3)
  pub four : nearest scaled G < five_digits
  pub few : e ≤ 13

pub unscaled : {x : ℕ} → 0 < x → x ≤ G → Scaling x (x * 1000) 0
unscaled {x} some whole =
    record {
      some = some;
      whole = whole;
      is = refl;
      four = omega (arith, (nearest_between (x * 1000) G (omega arith)).above);
      few = omega arith;
    }

module _ {x scaled e : ℕ} (s : Scaling x scaled e) where
  pub scaled_small : scaled < five_digits * G
  scaled_small = omega (arith, s.four, (nearest_between scaled G (omega arith)).below)

  tenfold : scaled * 10 ≡ x * 10 ^ (suc e + 3)
  tenfold = omega (arith, ap (λ t. t * 10) s.is, ap (λ t. x * t) (power_next e))

  -- A grain has 13 places.
  few_places : scaled * 10 < five_digits * G → suc e ≤ 13
  few_places small = by_size (dec_le (suc e) 13)
    where
      by_size : Dec (suc e ≤ 13) → suc e ≤ 13
      by_size (yes l) = l
      by_size (no h) =
          let power : 10 ^ 17 ≤ 10 ^ (suc e + 3) = pow-le-pow_right {n = 10} (omega arith) {i = 17} (omega arith) in
          absurd (omega (arith, tenfold, mul-le-mul_left (10 ^ (suc e + 3)) s.some))

  pub again : nearest (scaled * 10) G < five_digits → Scaling x (scaled * 10) (e + 1)
  again four =
      let small : scaled * 10 < five_digits * G =
      omega (arith, (nearest_between (scaled * 10) G (omega arith)).below) in
      record {
        some = s.some;
        whole = s.whole;
        is = rw add-one tenfold;
        four = four;
        few = omega (arith, few_places small);
      }

  pub exponent_found : five_digits ≤ nearest (scaled * 10) G → e ≡ exponent x
  exponent_found five =
      let here : Turn x e =
      record { four = rw s.is at s.four; five = rw tenfold at five; within = omega (arith, s.few) }
      in
      turn_only here (turn s.some s.whole)

  pub digits_found : five_digits ≤ nearest (scaled * 10) G → nearest scaled G ≡ thousandths x (exponent x)
  digits_found five = ap (λ t. nearest t G) s.is ∙ ap (thousandths x) (exponent_found five)

-- Where the places begin, that each fits a word, and where the last is.
pub ruleset places = (unscaled, scaled_small, exponent_found, digits_found)
