-- What an accepted book's grounds say of its numbers: each test that is false gives an order or an equation.
use Prim.Native.Nat.{ℕ, suc, ◌+◌, ◌*◌, ◌-◌, ◌≤◌, ◌<◌}
use native.Mathlib.Nat.{pos_of_ne-zero}
use native.Mathlib.Omega.{arith}
use mathlib.Core.Path.{◌≡◌}
use mathlib.Core.Bool.{false}
use mathlib.Core.List.{List}
use lib.ListN.{length}
use lib.Dec.{ltb, leb, eqb}
use borrow.Author.Tests.{ltb-false, leb-false, eqb-true, eqb-false, not-false}
use Rattle.book.specs.Limits.{max_members, max_feeds, max_coefficient}
use Rattle.book.specs.Fields.{members, feed_count, working_level_divisor, half_life}
use Rattle.book.specs.Fields.{coefficient, first_feed, scale_of, share, from, next}
use Rattle.numbers.specs.Tests.{some_below, outside}
use Rattle.book.specs.BookGrounds.{longest, count_out_of_range, book_length_wrong, divisor_or_zeros_wrong}
use Rattle.book.specs.BookGrounds.{member_out_of_range, feed_out_of_range, feed_not_once, feeds_misplaced, walk}
use Rattle.book.specs.BookGrounds.{occurrences, shares_out_of, shares_out_too_high, Accepted}
use Rattle.refusals.proofs.FirstMet.{neither}
use Rattle.numbers.proofs.NoneMet.{none_below}
use Rattle.book.proofs.BookPasses.{BookPasses, accepted_passes}

-- x is low to high.
pub record InRange (low high x : ℕ) : Type 0 where
  pub from : low ≤ x
  pub to : x ≤ high

within : (low high x : ℕ) → outside low high x ≡ false → InRange low high x
within low high x e =
    let parts = neither (ltb x low) (ltb high x) e in
    record { from = ltb-false x low parts.0; to = ltb-false high x parts.1 }

pub record MemberRanges (book : List ℕ) (i : ℕ) : Type 0 where
  pub half_life_in_range : InRange 1 (longest i) (half_life book i)
  pub coefficients : (which : ℕ) → which < 5 → coefficient book i which ≤ max_coefficient
  pub first : first_feed book i ≤ feed_count book
  pub shares_out : shares_out_of book i ≤ scale_of book

-- Of feed j, counted from 1.
pub record FeedRanges (book : List ℕ) (j : ℕ) : Type 0 where
  pub share_of_whole : InRange 1 (scale_of book) (share book j)
  pub from_member : from book j < members book
  pub next_feed : next book j ≤ feed_count book
  pub once : occurrences j (walk book (members book)) ≡ 1

pub record Ranges (book : List ℕ) : Type 0 where
  pub members_count : InRange 1 max_members (members book)
  pub feeds_count : feed_count book ≤ max_feeds
  pub size : length book ≡ 8 + 32 * members book + 8 * feed_count book
  pub divisor : 0 < working_level_divisor book
  pub member : (i : ℕ) → i < members book → MemberRanges book i
  pub feed : (j : ℕ) → j < feed_count book → FeedRanges book (suc j)
  pub parent_unfed : first_feed book 0 ≡ 0
  pub later_fed : (i : ℕ) → suc i < members book → 0 < first_feed book (suc i)

pub counts : (book : List ℕ) → count_out_of_range book ≡ false →
    InRange 1 max_members (members book) × (feed_count book ≤ max_feeds)
unfolding count_out_of_range
counts book passed =
    let parts = neither (outside 1 max_members (members book)) _ passed in
    (within 1 max_members (members book) parts.0, ltb-false max_feeds (feed_count book) parts.1)

module _ (book : List ℕ) (passes : BookPasses book) where
  size : length book ≡ 8 + 32 * members book + 8 * feed_count book
  unfolding book_length_wrong
  size = eqb-true _ _ (not-false _ passes.length_right)

  divisor : 0 < working_level_divisor book
  unfolding divisor_or_zeros_wrong
  divisor =
      pos_of_ne-zero (eqb-false (working_level_divisor book) 0
      (neither _ _ (neither _ _ (neither _ _ passes.header).0).0).0)

  member : (i : ℕ) → i < members book → MemberRanges book i
  unfolding member_out_of_range feed_out_of_range shares_out_too_high
  member i l =
      let numbers =
      neither (outside 1 (longest i) (half_life book i)) _ (none_below (members book) _ passes.members i l) in
      let feeds =
      neither (some_below (feed_count book) _)
      (some_below (members book) (λ k. ltb (feed_count book) (first_feed book k))) passes.feeds in
      record {
        half_life_in_range = within 1 (longest i) (half_life book i) numbers.0;
        coefficients =
            λ which h. ltb-false max_coefficient (coefficient book i which) (none_below 5 _ numbers.1 which h);
        first = ltb-false (feed_count book) (first_feed book i) (none_below (members book) _ feeds.1 i l);
        shares_out =
            ltb-false (scale_of book) (shares_out_of book i) (none_below (members book) _ passes.shares_out i l);
      }

  feed : (j : ℕ) → j < feed_count book → FeedRanges book (suc j)
  unfolding feed_out_of_range feed_not_once
  feed j l =
      let numbers = none_below (feed_count book) _ (neither _ _ passes.feeds).0 j l in
      let all = neither _ (ltb (feed_count book) (next book (suc j))) numbers in
      let two =
      neither (outside 1 (scale_of book) (share book (suc j))) (leb (members book) (from book (suc j))) all.0 in
      record {
        share_of_whole = within 1 (scale_of book) (share book (suc j)) two.0;
        from_member = leb-false (members book) _ two.1;
        next_feed = ltb-false (feed_count book) _ all.1;
        once = eqb-true _ 1 (not-false _ (none_below (feed_count book) _ passes.once j l));
      }

  placed : (first_feed book 0 ≡ 0) × ((i : ℕ) → suc i < members book → 0 < first_feed book (suc i))
  unfolding feeds_misplaced
  placed =
      let parts = neither _ (some_below (members book - 1) (λ i. eqb (first_feed book (suc i)) 0)) passes.placed in (
        eqb-true (first_feed book 0) 0 (not-false _ parts.0),
        λ i l. pos_of_ne-zero
            (eqb-false (first_feed book (suc i)) 0 (none_below (members book - 1) _ parts.1 i (omega arith))),
      )

pub accepted_ranges : (book : List ℕ) → Accepted book → Ranges book
accepted_ranges book accepted =
    let passes = accepted_passes book accepted in
    record {
      members_count = (counts book passes.counts).0;
      feeds_count = (counts book passes.counts).1;
      size = size book passes;
      divisor = divisor book passes;
      member = member book passes;
      feed = feed book passes;
      parent_unfed = (placed book passes).0;
      later_fed = (placed book passes).1;
    }

pub few_members : (book : List ℕ) → Accepted book → members book ≤ max_members
few_members book accepted = (accepted_ranges book accepted).members_count.to

pub ruleset few = (few_members)
