-- What the code holds of a book: the half-lives and the feeds of its chain in arrays, with their counts.
use Rattle.std.specs.Prelude.{ℕ, zero, suc, ◌-◌, min, List, [], ◌∷◌, ◌++◌, length, drop}
use Rattle.book.specs.Limits.{max_members, max_feeds}
use Rattle.book.specs.Fields.{members, first_feed, share, from, next, along}
use Rattle.book.specs.declared.feed.Feed.{Feed}

-- f 0 to f (n - 1)
unfoldable pub up_to : {A : Type 0} → ℕ → (ℕ → A) → List A
up_to zero f = []
up_to (suc n) f = up_to n f ++ (f n ∷ [])

-- A list with f 0 to f (n - 1) in its first n places, and the others as they were.
abbrev pub filled : {A : Type 0} → ℕ → (ℕ → A) → List A → List A
filled n f list = up_to n f ++ drop n list

-- A list with these in its first places, and the others as they were.
abbrev pub over : {A : Type 0} → List A → List A → List A
over front list = front ++ drop (length front) list

-- The count of members is cut at the limit,
-- so that what is held of any bytes is defined; that of an accepted book is within it.
abbrev pub member_places : List ℕ → ℕ
member_places book = min (members book) max_members

-- The numbers of feed j.
abbrev pub feed_of : List ℕ → ℕ → Feed
feed_of book j = record { share = share book j; from = from book j }

-- The feeds of the members below i, in the order in which the walk meets them, cut where their places end.
unfoldable pub feeds_in_order : List ℕ → ℕ → List ℕ
feeds_in_order book zero = []
feeds_in_order book (suc i) =
    let before = feeds_in_order book i in
    before ++ along (next book) (max_feeds - length before) (first_feed book i)

-- Those of member i.
abbrev pub held_feeds : List ℕ → ℕ → List ℕ
held_feeds book i = along (next book) (max_feeds - length (feeds_in_order book i)) (first_feed book i)

-- The place after member i's last feed.
abbrev pub feeds_end : List ℕ → ℕ → ℕ
feeds_end book i = length (feeds_in_order book (suc i))
