-- The grounds that read no coefficient and no zero byte are met of a book over which a second set is written where they
-- are met of the book: what they read is the same.
use Prim.Native.Nat.{ℕ, suc, ◌-◌}
use mathlib.Core.Path.{◌≡◌, refl, ap, ap₂, fun_ext, ◌∙◌}
use mathlib.Core.Bool.{not, ◌||◌}
use mathlib.Core.List.{List}
use lib.Dec.{ltb, leb, eqb}
use Rattle.numbers.specs.Tests.{some_below, some_in}
use Rattle.book.specs.Fields.{members, scale_of, from, feeds_of}
use Rattle.book.specs.BookGrounds.{book_too_short, count_out_of_range, book_length_wrong, feed_wrong, feed_out_of_range}
use Rattle.book.specs.BookGrounds.{walk, occurrences, feed_not_once, feeds_misplaced, feed_not_from_lower}
use Rattle.book.specs.BookGrounds.{shares_out_too_high}
use Rattle.coefficients.proofs.GroupsOver.{Written}
use Rattle.coefficients.proofs.WrittenFields.{members_kept, feed_count_kept, first_feed_kept, from_kept, next_kept}
use Rattle.coefficients.proofs.WrittenFields.{share_kept, scale_kept}
use Rattle.coefficients.proofs.WrittenFeeds.{feeds_of_kept, walk_kept, shares_out_kept}

module _ {second book w : List ℕ} (written : Written second book (members book) w) where
  pub too_short_kept : book_too_short w ≡ book_too_short book
  unfolding book_too_short
  too_short_kept = rw written.size refl

  pub counts_kept : count_out_of_range w ≡ count_out_of_range book
  unfolding count_out_of_range
  counts_kept = rw (members_kept written, feed_count_kept written) refl

  pub length_kept : book_length_wrong w ≡ book_length_wrong book
  unfolding book_length_wrong
  length_kept = rw (written.size, members_kept written, feed_count_kept written) refl

  feed_wrong_kept : (j : ℕ) → feed_wrong w (suc j) ≡ feed_wrong book (suc j)
  feed_wrong_kept j =
      let share = share_kept written j in
      let from = ap (λ f. f (suc j)) (from_kept written) in
      let next = ap (λ f. f (suc j)) (next_kept written) in
      cc (scale_kept written, members_kept written, feed_count_kept written)

  pub feed_range_kept : feed_out_of_range w ≡ feed_out_of_range book
  unfolding feed_out_of_range
  feed_range_kept =
      let feeds = ap₂ some_below (feed_count_kept written) (fun_ext feed_wrong_kept) in
      let first =
      ap₂ (λ m first. some_below (members w) (λ i. ltb m (first i))) (feed_count_kept written) (first_feed_kept written)
      in
      cc (members_kept written)

  pub once_kept : feed_not_once w ≡ feed_not_once book
  unfolding feed_not_once
  once_kept =
      ap₂
      (λ count walked. some_below count (λ j. not (eqb (occurrences (suc j) walked) 1)))
      (feed_count_kept written)
      (ap (walk w) (members_kept written) ∙ walk_kept written (members book))

  pub placed_kept : feeds_misplaced w ≡ feeds_misplaced book
  unfolding feeds_misplaced
  placed_kept =
      ap₂
      (λ n first. not (eqb (first 0) 0) || some_below (n - 1) (λ i. eqb (first (suc i)) 0))
      (members_kept written)
      (first_feed_kept written)

  pub from_lower_kept : feed_not_from_lower w ≡ feed_not_from_lower book
  unfolding feed_not_from_lower
  from_lower_kept =
      ap₂
      (λ n feeds. some_below n (λ i. some_in (feeds i) (λ j. leb i (from w j))))
      (members_kept written)
      (feeds_of_kept written)
      ∙ ap
      (λ from. some_below (members book) (λ i. some_in (feeds_of book i) (λ j. leb i (from j))))
      (from_kept written)

  pub shares_too_high_kept : shares_out_too_high w ≡ shares_out_too_high book
  unfolding shares_out_too_high
  shares_too_high_kept =
      rw (scale_kept written)
      (ap₂ (λ n out. some_below n (λ i. ltb (scale_of book) (out i))) (members_kept written) (shares_out_kept written))
