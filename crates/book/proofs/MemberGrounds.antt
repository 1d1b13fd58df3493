-- The grounds of a book in two parts: those of its feeds are looked for where those of its members are not met, and
-- then its count of members is within the limit.
use Rattle.std.specs.Prelude.{Ok}
use Rattle.std.proofs.Common.{◌≡◌, ◌≤◌, List, ℕ}
use Rattle.refusals.specs.Grounds.{first_met, or_else}
use Rattle.refusals.proofs.FirstMet.{first_of_both, not_met}
use Rattle.book.specs.Limits.{max_members}
use Rattle.book.specs.Fields.{members}
use Rattle.book.specs.BookGrounds.{book_too_short, count_out_of_range, member_grounds, feed_grounds, book_grounds}
use Rattle.book.proofs.Ranges.{counts}

pub two_parts : (book : List ℕ) →
    first_met (book_grounds book) ≡ or_else (first_met (member_grounds book)) (first_met (feed_grounds book))
two_parts book = first_of_both (member_grounds book) (feed_grounds book)

pub members_counted : (book : List ℕ) → first_met (member_grounds book) ≡ Ok tt → members book ≤ max_members
members_counted book passed =
    let long = not_met (book_too_short book) _ _ passed in
    let counted = not_met (count_out_of_range book) _ _ long.1 in
    (counts book counted.0).0.to

pub ruleset in_two_parts = (two_parts)
