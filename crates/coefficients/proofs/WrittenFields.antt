-- The fields of a book over which a second set is written: the members' five numbers are the set's, and every other
-- field is the book's.
use Prim.Native.Nat.{ℕ, suc, ◌+◌, ◌*◌, ◌≤◌, ◌<◌}
use native.Mathlib.Nat.{add_assoc}
use native.Mathlib.Omega.{arith}
use mathlib.Core.Path.{◌≡◌, refl, ap, fun_ext, ◌∙◌}
use mathlib.Core.List.{List}
use lib.ListN.{length}
use Rattle.numbers.specs.Bytes.{u8_at, u32_at}
use Rattle.book.specs.Fields.{members, feed_count, working_level_divisor, member_at, half_life, first_feed}
use Rattle.book.specs.Fields.{coefficient_count, coefficient_at, coefficient, first_coefficient, scale_of}
use Rattle.book.specs.Fields.{member_length, feed_length, feed_at, share, from, next}
use Rattle.book.specs.Rates.{rates_at}
use Rattle.coefficients.specs.Sets.{group_at}
use Rattle.numbers.proofs.AlikeBytes.{Alike, u16_alike, u32_alike, u64_alike}
use Rattle.coefficients.proofs.GroupsOver.{Written, InNoGroup}

module _ {second book w : List ℕ} (written : Written second book (members book) w) where
  kept_from : (k size : ℕ) → ((r : ℕ) → r < size → InNoGroup (members book) (k + r)) → Alike w k book k size
  kept_from k size none = record { byte = λ r l. written.kept (k + r) (none r l) }

  pub members_kept : members w ≡ members book
  members_kept = written.kept 0 (λ i l h. omega arith)

  pub feed_count_kept : feed_count w ≡ feed_count book
  feed_count_kept = written.kept 1 (λ i l h. omega arith)

  pub divisor_kept : working_level_divisor w ≡ working_level_divisor book
  divisor_kept = u16_alike (kept_from 2 2 (λ r h i l from. omega arith))

  pub half_life_kept : half_life w ≡ half_life book
  half_life_kept = fun_ext (λ i. u64_alike (kept_from (member_at i) 8 (λ r h j l from. omega arith)))

  pub first_feed_kept : first_feed w ≡ first_feed book
  first_feed_kept = fun_ext (λ i. written.kept (member_at i + 28) (λ j l h. omega arith))

  pub feed_at_kept : feed_at w ≡ feed_at book
  feed_at_kept = ap (λ n j. member_length * n + feed_length * j) members_kept

  -- A feed's bytes after its share.
  feed_byte_kept : (r : ℕ) → 4 ≤ r → (j : ℕ) → u8_at w (feed_at w j + r) ≡ u8_at book (feed_at book j + r)
  feed_byte_kept r l j =
      ap (λ at. u8_at w (at j + r)) feed_at_kept ∙ written.kept (feed_at book j + r) (λ i m h. omega arith)

  pub from_kept : from w ≡ from book
  from_kept = fun_ext (feed_byte_kept 4 (omega arith))

  pub next_kept : next w ≡ next book
  next_kept = fun_ext (feed_byte_kept 5 (omega arith))

  pub share_kept : (j : ℕ) → share w (suc j) ≡ share book (suc j)
  share_kept j =
      ap (λ at. u32_at w (at (suc j))) feed_at_kept
      ∙ u32_alike (kept_from (feed_at book (suc j)) 4 (λ r h i l from. omega arith))

  pub scale_kept : scale_of w ≡ scale_of book
  unfolding scale_of
  scale_kept = refl

  pub rates_kept : rates_at w ≡ rates_at book
  unfolding rates_at
  rates_kept = refl

  number_from :
      group_at (members book) ≤ length second → (i which : ℕ) → i < members book → which < coefficient_count →
      Alike w (first_coefficient i + 4 * which) second (group_at i + 4 * which) 4
  number_from enough i which l h =
      record {
        byte =
            λ r k.
            rw (add_assoc (first_coefficient i) (4 * which) r, add_assoc (group_at i) (4 * which) r)
            (written.set enough i (4 * which + r) l (omega arith));
      }

  pub coefficient_written :
      group_at (members book) ≤ length second → (i which : ℕ) → i < members book → which < coefficient_count →
      coefficient w i which ≡ coefficient_at second (group_at i) which
  coefficient_written enough i which l h = u32_alike (number_from enough i which l h)
