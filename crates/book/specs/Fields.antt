-- The fields of a chain book (document 01, "Book and job").
use Rattle.std.specs.Prelude.{ℕ, ◌+◌, ◌*◌, zero, suc, List, [], ◌∷◌}
use Rattle.book.specs.Limits.{max_members, max_feeds, whole_share}
use Rattle.numbers.specs.Bytes.{u8_at, u16_at, u32_at, u64_at}

-- The sizes in bytes of the header, of a member and of a feed.
abbrev pub header_length : ℕ
header_length = 8

abbrev pub member_length : ℕ
member_length = 32

abbrev pub feed_length : ℕ
feed_length = 8

-- n, the count of members, and m, the count of feeds.
abbrev pub members : List ℕ → ℕ
members book = u8_at book 0

abbrev pub feed_count : List ℕ → ℕ
feed_count book = u8_at book 1

-- W, in tenths of pCi/L.
abbrev pub working_level_divisor : List ℕ → ℕ
working_level_divisor book = u16_at book 2

-- Where the header's zero bytes begin, and how many they are.
abbrev pub header_zeros : ℕ
header_zeros = 4

abbrev pub header_zero_count : ℕ
header_zero_count = 4

-- Members count from 0, the parent gas; they follow the header.
abbrev pub member_at : ℕ → ℕ
member_at i = header_length + member_length * i

abbrev pub half_life : List ℕ → ℕ → ℕ
half_life book i = u64_at book (member_at i)

-- A member has five numbers: 0 inhalation risk h, 1 submersion risk s,
-- 2 inhalation dose, 3 submersion dose, 4 alpha energy weight w.
abbrev pub coefficient_count : ℕ
coefficient_count = 5

-- Number `which` of five that stand one after the other, each a u32.
abbrev pub coefficient_at : List ℕ → ℕ → ℕ → ℕ
coefficient_at bytes at which = u32_at bytes (at + 4 * which)

-- A member's follow its half-life.
abbrev pub first_coefficient : ℕ → ℕ
first_coefficient i = member_at i + 8

abbrev pub coefficient : List ℕ → ℕ → ℕ → ℕ
coefficient book i = coefficient_at book (first_coefficient i)

-- All five.
abbrev pub five : (ℕ → ℕ) → List ℕ
five number = number 0 ∷ number 1 ∷ number 2 ∷ number 3 ∷ number 4 ∷ []

abbrev pub first_feed : List ℕ → ℕ → ℕ
first_feed book i = u8_at book (member_at i + 28)

-- Where a member's zero bytes begin, and how many they are.
abbrev pub member_zeros : ℕ → ℕ
member_zeros i = member_at i + 29

abbrev pub member_zero_count : ℕ
member_zero_count = 3

-- Feeds count from 1 and follow the members, so that feed 1 stands at 8 + 32 n.
abbrev pub feed_at : List ℕ → ℕ → ℕ
feed_at book j = member_length * members book + feed_length * j

-- What a book's shares are parts of.
unfoldable pub scale_of : List ℕ → ℕ
scale_of book = whole_share

abbrev pub share : List ℕ → ℕ → ℕ
share book j = u32_at book (feed_at book j)

abbrev pub from : List ℕ → ℕ → ℕ
from book j = u8_at book (feed_at book j + 4)

abbrev pub next : List ℕ → ℕ → ℕ
next book j = u8_at book (feed_at book j + 5)

-- Where a feed's zero bytes begin, and how many they are.
abbrev pub feed_zeros : List ℕ → ℕ → ℕ
feed_zeros book j = feed_at book j + 6

abbrev pub feed_zero_count : ℕ
feed_zero_count = 2

-- 8 + 32n + 8m.
abbrev pub book_length : List ℕ → ℕ
book_length book = header_length + member_length * members book + feed_length * feed_count book

-- The most bytes that an accepted book has; one more is all that a program need read of a book.
abbrev pub longest_book : ℕ
longest_book = header_length + member_length * max_members + feed_length * max_feeds

-- The feeds from j on: j, then along next; zero ends the chain. At most so many are listed.
unfoldable pub along : (ℕ → ℕ) → ℕ → ℕ → List ℕ
along following zero j = []
along following (suc more) zero = []
along following (suc more) (suc j) = suc j ∷ along following more (following (suc j))

-- A member's feeds. Of m feeds no chain longer than m is without a repeat,
-- so a list cut at m + 1 shows whether there is one.
abbrev pub feeds_of : List ℕ → ℕ → List ℕ
feeds_of book i = along (next book) (feed_count book + 1) (first_feed book i)
