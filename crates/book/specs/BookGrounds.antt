-- The grounds for refusing a book, in checking order (document 01, grounds 9 to 18).
-- Each may read as if the earlier ones were not met; where they are, its value does not matter.
use Rattle.std.specs.Prelude.{ℕ, zero, suc, ◌+◌, ◌-◌, ◌≡◌, Bool, not, cond, ◌||◌}
use Rattle.std.specs.Prelude.{List, [], ◌∷◌, ◌++◌, length, leb, ltb, eqb, Ok}
use Rattle.numbers.specs.Bytes.{u8_at}
use Rattle.book.specs.Limits.{max_members, max_feeds, max_parent_half_life, max_half_life, max_coefficient}
use Rattle.book.specs.Fields.{header_length, header_zeros, header_zero_count, member_zeros}
use Rattle.book.specs.Fields.{member_zero_count, feed_zeros, feed_zero_count, book_length, members}
use Rattle.book.specs.Fields.{feed_count, working_level_divisor, half_life, coefficient_count}
use Rattle.book.specs.Fields.{coefficient_at, first_coefficient, first_feed, scale_of, share, from, next, feeds_of}
use Rattle.refusals.specs.Grounds.{Ground, ground_of, first_met}
use Rattle.numbers.specs.Tests.{outside, some_below, some_in}
use Rattle.numbers.specs.Sums.{sum_below}
use Rattle.refusals.specs.declared.Refusal.TheVariants.{BookTooShort, CountOutOfRange, BookLengthWrong}
use Rattle.refusals.specs.declared.Refusal.TheVariants.{DivisorOrZerosWrong, MemberOutOfRange, FeedOutOfRange}
use Rattle.refusals.specs.declared.Refusal.TheVariants.{FeedNotOnce, FeedsMisplaced, FeedNotFromLower, SharesOutTooHigh}

-- 9. The book has fewer than 8 bytes.
unfoldable pub book_too_short : List ℕ → Bool
book_too_short book = ltb (length book) header_length

-- 10. n isn't 1 to 16, or m exceeds 64.
unfoldable pub count_out_of_range : List ℕ → Bool
count_out_of_range book = outside 1 max_members (members book) || ltb max_feeds (feed_count book)

-- 11. The book's length isn't 8 + 32n + 8m.
unfoldable pub book_length_wrong : List ℕ → Bool
book_length_wrong book = not (eqb (length book) (book_length book))

-- 12. W is 0 or one of the book's zero bytes isn't zero: four in the header, three in a member, two in a feed.
abbrev pub not_zero : List ℕ → ℕ → Bool
not_zero book at = not (eqb (u8_at book at) 0)

unfoldable pub divisor_or_zeros_wrong : List ℕ → Bool
divisor_or_zeros_wrong book =
    eqb (working_level_divisor book) 0
    || some_below header_zero_count (λ k. not_zero book (header_zeros + k))
    || some_below (members book) (λ i. some_below member_zero_count (λ k. not_zero book (member_zeros i + k)))
    || some_below (feed_count book) (λ j. some_below feed_zero_count (λ k. not_zero book (feed_zeros book (suc j) + k)))

-- 13. Member 0 has T outside 1 to 10^15, a later one outside 1 to 60,000,000,000,000,
-- or one of a member's five numbers exceeds 4,000,000,000.
abbrev pub longest : ℕ → ℕ
longest zero = max_parent_half_life
longest (suc i) = max_half_life

abbrev pub coefficient_too_high : List ℕ → ℕ → Bool
coefficient_too_high bytes at =
    some_below coefficient_count (λ which. ltb max_coefficient (coefficient_at bytes at which))

abbrev pub member_wrong : List ℕ → ℕ → Bool
member_wrong book i = outside 1 (longest i) (half_life book i) || coefficient_too_high book (first_coefficient i)

unfoldable pub member_out_of_range : List ℕ → Bool
member_out_of_range book = some_below (members book) (member_wrong book)

-- 14. A share isn't 1 to 100,000, from isn't below n, or a first or next exceeds m.
abbrev pub feed_wrong : List ℕ → ℕ → Bool
feed_wrong book j =
    outside 1 (scale_of book) (share book j) || leb (members book) (from book j) || ltb (feed_count book) (next book j)

unfoldable pub feed_out_of_range : List ℕ → Bool
feed_out_of_range book =
    some_below (feed_count book) (λ j. feed_wrong book (suc j))
    || some_below (members book) (λ i. ltb (feed_count book) (first_feed book i))

-- 15. Walking the members in order, some feed comes up twice or, at the end, never.
unfoldable pub walk : List ℕ → ℕ → List ℕ
walk book zero = []
walk book (suc i) = walk book i ++ feeds_of book i

unfoldable pub occurrences : ℕ → List ℕ → ℕ
occurrences x [] = 0
occurrences x (y ∷ ys) = cond (eqb x y) 1 0 + occurrences x ys

unfoldable pub feed_not_once : List ℕ → Bool
feed_not_once book = some_below (feed_count book) (λ j. not (eqb (occurrences (suc j) (walk book (members book))) 1))

-- 16. Member 0 has a feed, or a later one has none.
unfoldable pub feeds_misplaced : List ℕ → Bool
feeds_misplaced book =
    not (eqb (first_feed book 0) 0) || some_below (members book - 1) (λ i. eqb (first_feed book (suc i)) 0)

-- 17. A from isn't lower than the member it feeds.
unfoldable pub feed_not_from_lower : List ℕ → Bool
feed_not_from_lower book = some_below (members book) (λ i. some_in (feeds_of book i) (λ j. leb i (from book j)))

-- 18. The shares out of one member add up to over 100,000.
abbrev pub share_out : List ℕ → ℕ → ℕ → ℕ
share_out book i j = cond (eqb (from book j) i) (share book j) 0

abbrev pub shares_out_of : List ℕ → ℕ → ℕ
shares_out_of book i = sum_below (feed_count book) (λ j. share_out book i (suc j))

unfoldable pub shares_out_too_high : List ℕ → Bool
shares_out_too_high book = some_below (members book) (λ i. ltb (scale_of book) (shares_out_of book i))

-- Those of the book's form and of its members.
abbrev pub member_grounds : List ℕ → List Ground
member_grounds book =
    ground_of BookTooShort (book_too_short book)
    ∷ ground_of CountOutOfRange (count_out_of_range book)
    ∷ ground_of BookLengthWrong (book_length_wrong book)
    ∷ ground_of DivisorOrZerosWrong (divisor_or_zeros_wrong book)
    ∷ ground_of MemberOutOfRange (member_out_of_range book)
    ∷ []

-- Those of its feeds.
abbrev pub feed_grounds : List ℕ → List Ground
feed_grounds book =
    ground_of FeedOutOfRange (feed_out_of_range book)
    ∷ ground_of FeedNotOnce (feed_not_once book)
    ∷ ground_of FeedsMisplaced (feeds_misplaced book)
    ∷ ground_of FeedNotFromLower (feed_not_from_lower book)
    ∷ ground_of SharesOutTooHigh (shares_out_too_high book)
    ∷ []

abbrev pub book_grounds : List ℕ → List Ground
book_grounds book = member_grounds book ++ feed_grounds book

-- No ground is met.
abbrev pub Accepted : List ℕ → Type 0
Accepted book = first_met (book_grounds book) ≡ Ok tt
