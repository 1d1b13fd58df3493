-- Where the points of an interval stand to a printed number: a point above one that is not below is not below either,
-- and a point under one that is not above is not above. So the ends tell of all points.
use Prim.Native.Nat.{ℕ, ◌+◌, ◌-◌, ◌*◌, ◌^◌, ◌≤◌}
use native.Mathlib.Nat.{mul-le-mul_left, mul-lt-mul_of_pos_left, one-le-pow, sub-add_cancel}
use native.Mathlib.Omega.{arith}
use mathlib.Core.Path.{◌≡◌, ap}
use mathlib.Core.Bool.{true, false}
use borrow.Author.Tests.{le-leb, lt-leb, leb-true, leb-false}
use Rattle.balance.specs.Balance.{G}
use Rattle.entry.specs.declared.scaling.Share.{Share}
use Rattle.printed.specs.Mark.{not_below, not_above, within}
use Rattle.printed.specs.Promises.{Point}

module _ (share : Share) {low high p q : ℕ} (point : Point low high p q) where
  abbrev unit : ℕ
  unit = 10 ^ (share.exponent + 3)

  pub above_low : not_below share low 1 ≡ true → not_below share p q ≡ true
  above_low h =
      le-leb _ _
      (omega (arith, mul-le-mul_left q (leb-true _ _ h), mul-le-mul_left unit point.from_low))

  pub under_high : not_above share high 1 ≡ true → not_above share p q ≡ true
  under_high h =
      le-leb _ _
      (omega (arith, mul-le-mul_left q (leb-true _ _ h), mul-le-mul_left unit point.to_high))

  pub all_below : not_below share high 1 ≡ false → not_below share p q ≡ false
  all_below h =
      lt-leb _ _
      (omega (
        arith,
        mul-lt-mul_of_pos_left (leb-false _ _ h) point.fraction,
        mul-le-mul_left unit point.to_high,
      ))

  pub all_above : not_above share low 1 ≡ false → not_above share p q ≡ false
  all_above h =
      lt-leb _ _
      (omega (
        arith,
        mul-lt-mul_of_pos_left (leb-false _ _ h) point.fraction,
        mul-le-mul_left unit point.from_low,
      ))

-- The ends are points.
pub at_low : {low high : ℕ} → low ≤ high → Point low high low 1
at_low le = record { fraction = omega arith; from_low = omega arith; to_high = omega arith }

pub at_high : {low high : ℕ} → low ≤ high → Point low high high 1
at_high le = record { fraction = omega arith; from_low = omega arith; to_high = omega arith }

-- Where the interval begins below the half unit and ends within reach, the half unit's own lower end is one of its
-- points.
abbrev pub lower_end : Share → ℕ
lower_end share = 2 * share.thousandths * G - G

abbrev pub parts : Share → ℕ
parts share = 2 * 10 ^ (share.exponent + 3)

module _ (share : Share) {low high : ℕ} (begins : not_below share low 1 ≡ false) where
  pub lower_point : not_below share high 1 ≡ true → Point low high (lower_end share) (parts share)
  lower_point ends =
      let less = leb-false _ _ begins in
      let most = leb-true _ _ ends in
      record {
        fraction = omega (arith, one-le-pow (share.exponent + 3) 10 (omega arith));
        from_low = omega arith;
        to_high = omega arith;
      }

module _ (share : Share) (low : ℕ) (begins : not_below share low 1 ≡ false) where
  pub lower_within : within share (lower_end share) (parts share) ≡ true
  lower_within =
      let less = leb-false _ _ begins in
      let whole : lower_end share + G ≡ 2 * share.thousandths * G = sub-add_cancel (omega arith) in
      let scaled = ap (λ n. 10 ^ (share.exponent + 3) * n) whole in
      rw (le-leb (2 * share.thousandths * parts share * G)
      (2 * lower_end share * 10 ^ (share.exponent + 3) + parts share * G)
      (omega (arith, scaled)))
      (le-leb _ _ (omega (arith, scaled)))
