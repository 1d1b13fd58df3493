-- A number is written from its last digits to its first, four at a time. With the digits that are left put before it,
-- the list from the place on is what it is to be: so it is when all are left, and after each four, and so at the end.
-- There is room for four: a multiple of four stands, and all are 20 at most, of which one is left.
use Prim.Native.Nat.{ℕ, ◌+◌, ◌/◌, ◌%◌, ◌-◌, ◌^◌, ◌≤◌, ◌<◌}
use mathlib.Core.Path.{◌≡◌, sym, ap, ◌∙◌}
use mathlib.Core.List.{List, ◌++◌, append_assoc}
use native.Mathlib.Omega.{arith}
use lib.ListN.{length, drop, length-append}
use Rattle.std.proofs.lemmas.List.{drop-drop, length-drop}
use Rattle.text.specs.Words.{decimal, most_digits}
use Rattle.text.proofs.Digits.{decimal_at_most}
use Rattle.lines.specs.Digits.{four_digits}
use Rattle.lines.proofs.InFours.{four_more, four_last, four_at_most, some_digit}

pub record Begun (n end : ℕ) (old : List ℕ) (left at : ℕ) (out : List ℕ) : Type 0 where
  pub room : most_digits ≤ end
  pub within : at ≤ end
  pub long : end ≤ length out
  pub fours : (end - at) % 4 ≡ 0
  pub counted : length (decimal left) + end ≡ length (decimal n) + at
  pub same : decimal left ++ drop at out ≡ decimal n ++ drop end old

module _ {n end left at : ℕ} {old out : List ℕ} (begun : Begun n end old left at out) where
  pub room_for_four : 4 ≤ at
  room_for_four =
      omega (arith, begun.counted, begun.fours, begun.within, begun.room, decimal_at_most n, some_digit left)

  -- Four digits are put before the place reached.
  module _ (start : ℕ) (word now : List ℕ) (four : start + 4 ≡ at)
      (put : drop start now ≡ word ++ drop (start + 4) out) where
    put_before : drop start now ≡ word ++ drop at out
    put_before = put ∙ ap (λ p. word ++ drop p out) four

    pub four_more_put :
        left < 2 ^ 64 → 10000 ≤ left → word ≡ four_digits (left % 10000) → Begun n end old (left / 10000) start now
    four_more_put small more is =
        let front = decimal (left / 10000) in
        let digits = four_more left small more in
        let size : length now - start ≡ length word + (length out - at) =
        omega (
          arith,
          ap length put_before,
          length-drop start now,
          length-append word (drop at out),
          length-drop at out,
        )
        in
        record {
          room = begun.room;
          within = omega (arith, begun.within);
          long = omega (arith, begun.within, begun.long, size, ap length is);
          fours = omega (arith, begun.within, begun.fours);
          counted = omega (arith, begun.counted, simp length-append at (ap length digits));
          same =
              ap (λ l. front ++ l) (put_before ∙ ap (λ l. l ++ drop at out) is)
              ∙ sym (append_assoc front (four_digits (left % 10000)) (drop at out))
              ∙ ap (λ l. l ++ drop at out) (sym digits)
              ∙ begun.same;
        }

    pub rest_put :
        {count : ℕ} → left < 10000 → word ≡ four_digits left → count ≡ length (decimal left) →
        (at - count + length (decimal n) ≡ end) × (drop (at - count) now ≡ decimal n ++ drop end old)
    rest_put {count} few is counts =
        let zeros = 4 - length (decimal left) in
        let place : at - count ≡ start + zeros = omega (arith, four_at_most left few) in (
          omega (arith, begun.counted, four_at_most left few),
          ap (λ p. drop p now) place
              ∙ sym (drop-drop zeros start now)
              ∙ ap (drop zeros) (put_before ∙ ap (λ l. l ++ drop at out) is)
              ∙ four_last left (drop at out) few
              ∙ begun.same,
        )

-- What each copy of four digits reads.
pub ruleset from_the_end = (room_for_four, four_at_most)
