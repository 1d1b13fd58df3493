-- An accepted book over which a second set is written that is in range: it is accepted, its members' numbers are the
-- set's, and its other fields are the book's.
use Prim.Native.Nat.{ℕ, ◌≤◌, ◌<◌}
use native.Mathlib.Omega.{arith}
use mathlib.Core.Path.{◌≡◌, refl, ◌∙◌}
use mathlib.Core.Bool.{false}
use mathlib.Core.List.{List}
use lib.ListN.{length}
use borrow.Author.Tests.{eqb-true, not-false}
use Rattle.book.specs.Fields.{members}
use Rattle.book.specs.BookGrounds.{Accepted, coefficient_too_high}
use Rattle.book.proofs.BookPasses.{accepted_passes}
use Rattle.book.proofs.Ranges.{accepted_ranges}
use Rattle.numbers.proofs.NoneMet.{neither, none_below}
use Rattle.coefficients.specs.Sets.{group_at}
use Rattle.coefficients.specs.SetGrounds.{second_set_out_of_range}
use Rattle.coefficients.specs.WrittenOver.{written_over}
use Rattle.coefficients.proofs.GroupsOver.{Written, groups_written}
use Rattle.coefficients.proofs.WrittenZeros.{zeros_kept}
use Rattle.coefficients.proofs.WrittenNumbers.{members_pass}
use Rattle.coefficients.proofs.WrittenGrounds.{too_short_kept, counts_kept, length_kept, feed_range_kept}
use Rattle.coefficients.proofs.WrittenGrounds.{once_kept, placed_kept, from_lower_kept, shares_too_high_kept}

pub second_written :
    (second book : List ℕ) → Accepted book → Written second book (members book) (written_over second book)
second_written second book accepted =
    let book_size = (accepted_ranges book accepted).size in groups_written second book (members book) (omega arith)

module _ (second book : List ℕ) (in_range : second_set_out_of_range book second ≡ false) where
  size : length second ≡ group_at (members book)
  unfolding second_set_out_of_range
  size = eqb-true _ _ (not-false _ (neither _ _ in_range).0)

  pub enough : group_at (members book) ≤ length second
  enough = omega (arith, size)

  numbers : (i : ℕ) → i < members book → coefficient_too_high second (group_at i) ≡ false
  unfolding second_set_out_of_range
  numbers = none_below (members book) _ (neither _ _ in_range).1

  pub still_accepted : Accepted book → Accepted (written_over second book)
  still_accepted accepted =
      let written = second_written second book accepted in
      let passes = accepted_passes book accepted in
      rw (
        too_short_kept written ∙ passes.long_enough,
        counts_kept written ∙ passes.counts,
        length_kept written ∙ passes.length_right,
        zeros_kept written ∙ passes.header,
        members_pass written enough passes.members numbers,
        feed_range_kept written ∙ passes.feeds,
        once_kept written ∙ passes.once,
        placed_kept written ∙ passes.placed,
        from_lower_kept written ∙ passes.from_lower,
        shares_too_high_kept written ∙ passes.shares_out,
      ) refl
