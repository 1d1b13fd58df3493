-- What acceptance says, ground by ground: the first ground that is met is none, so each condition is false.
use Prim.Native.Nat.{ℕ}
use mathlib.Core.Path.{◌≡◌}
use mathlib.Core.Bool.{false}
use mathlib.Core.List.{List}
use Rattle.book.specs.BookGrounds.{book_too_short, count_out_of_range, book_length_wrong, divisor_or_zeros_wrong}
use Rattle.book.specs.BookGrounds.{member_out_of_range, feed_out_of_range, feed_not_once, feeds_misplaced}
use Rattle.book.specs.BookGrounds.{feed_not_from_lower, shares_out_too_high, Accepted}
use Rattle.refusals.proofs.FirstMet.{not_met}

pub record BookPasses (book : List ℕ) : Type 0 where
  pub long_enough : book_too_short book ≡ false
  pub counts : count_out_of_range book ≡ false
  pub length_right : book_length_wrong book ≡ false
  pub header : divisor_or_zeros_wrong book ≡ false
  pub members : member_out_of_range book ≡ false
  pub feeds : feed_out_of_range book ≡ false
  pub once : feed_not_once book ≡ false
  pub placed : feeds_misplaced book ≡ false
  pub from_lower : feed_not_from_lower book ≡ false
  pub shares_out : shares_out_too_high book ≡ false

pub accepted_passes : (book : List ℕ) → Accepted book → BookPasses book
accepted_passes book accepted =
    let g9 = not_met (book_too_short book) _ _ accepted in
    let g10 = not_met (count_out_of_range book) _ _ g9.1 in
    let g11 = not_met (book_length_wrong book) _ _ g10.1 in
    let g12 = not_met (divisor_or_zeros_wrong book) _ _ g11.1 in
    let g13 = not_met (member_out_of_range book) _ _ g12.1 in
    let g14 = not_met (feed_out_of_range book) _ _ g13.1 in
    let g15 = not_met (feed_not_once book) _ _ g14.1 in
    let g16 = not_met (feeds_misplaced book) _ _ g15.1 in
    let g17 = not_met (feed_not_from_lower book) _ _ g16.1 in
    let g18 = not_met (shares_out_too_high book) _ _ g17.1 in
    record {
      long_enough = g9.0;
      counts = g10.0;
      length_right = g11.0;
      header = g12.0;
      members = g13.0;
      feeds = g14.0;
      once = g15.0;
      placed = g16.0;
      from_lower = g17.0;
      shares_out = g18.0;
    }
