-- What the arrays of a held chain hold: each is filled with the book's numbers up to the count of members, and each
-- member's feeds stand between two ends. Of an accepted book the count is within its limit, so that none is cut.
use Prim.Native.Nat.{ℕ, zero, suc, ◌-◌, ◌≤◌, ◌<◌}
use native.Mathlib.Omega.{arith}
use native.Mathlib.Nat.{min-eq_left}
use native.Mathlib.Decide.{le_ind}
use mathlib.Core.Path.{◌≡◌, refl, sym, ap, ◌∙◌}
use mathlib.Core.List.{List, [], ◌++◌, map, map-append, append_assoc, append-nil}
use lib.ListN.{length, get_or, take, drop, replicate, length-append, length-map}
use lib.Seq.{drop_at, take_at}
use Rattle.book.specs.Limits.{max_members, max_feeds}
use Rattle.book.specs.Fields.{members, half_life, coefficient_count, five, first_feed, next}
use Rattle.book.specs.Held.{member_places, feed_of, feeds_in_order, held_feeds, feeds_end}
use Rattle.book.specs.Holding.{Holding, no_feeds}
use Rattle.book.specs.declared.feed.Feed.{Feed}
use Rattle.book.proofs.Along.{along_within}
use Rattle.book.proofs.Ranges.{Ranges}
use Rattle.book.proofs.Filled.{filled_at}

-- Of an accepted book no member is cut.
pub all_members : {book : List ℕ} → Ranges book → member_places book ≡ members book
all_members ranges = min-eq_left ranges.members_count.to

-- There is a place for each feed that is held.
pub feeds_fit : (book : List ℕ) (i : ℕ) → length (feeds_in_order book i) ≤ max_feeds
unfolding feeds_in_order
feeds_fit book zero = omega arith
feeds_fit book (suc i) =
    let before = feeds_in_order book i in
    omega (
      arith,
      feeds_fit book i,
      length-append before (held_feeds book i),
      along_within (next book) (max_feeds - length before) (first_feed book i),
    )

-- Member i's feeds come between those before and those after.
later_feeds : (book : List ℕ) (i k : ℕ) → suc i ≤ k →
    (rest : List ℕ) × (feeds_in_order book k ≡ (feeds_in_order book i ++ held_feeds book i) ++ rest)
unfolding feeds_in_order
later_feeds book i k l =
    le_ind
    (λ k. (rest : List ℕ) × (feeds_in_order book k ≡ (feeds_in_order book i ++ held_feeds book i) ++ rest))
    ([], sym (append-nil (feeds_in_order book i ++ held_feeds book i)))
    (λ k h ih. (
      ih.0 ++ held_feeds book k,
      ap (λ js. js ++ held_feeds book k) ih.1
          ∙ append_assoc (feeds_in_order book i ++ held_feeds book i) ih.0 (held_feeds book k),
    ))
    k
    l

pub no_feeds_before : (book : List ℕ) → length (feeds_in_order book 0) ≡ 0
unfolding feeds_in_order
no_feeds_before book = refl

pub start_before_end : (book : List ℕ) (i : ℕ) → length (feeds_in_order book i) ≤ feeds_end book i
unfolding feeds_in_order
start_before_end book i = omega (arith, length-append (feeds_in_order book i) (held_feeds book i))

module _ {book half_lives ends : List ℕ} {members : ℕ} {feeds : List Feed}
    (held : Holding book members half_lives ends feeds) where
  module _ (i : ℕ) (l : i < member_places book) where
    pub half_life_at : get_or half_lives i 0 ≡ half_life book i
    half_life_at =
        rw held.half_life_array (filled_at (member_places book) (half_life book) (replicate max_members 0) i 0 l)

    pub end_at : get_or ends i 0 ≡ feeds_end book i
    end_at = rw held.end_array (filled_at (member_places book) (feeds_end book) (replicate max_members 0) i 0 l)

    -- The part of the array from the first of member i's feeds on.
    pub feeds_at : take (feeds_end book i - length (feeds_in_order book i))
        (drop (length (feeds_in_order book i)) feeds) ≡ map (feed_of book) (held_feeds book i)
    unfolding feeds_in_order
    feeds_at =
        let before = feeds_in_order book i in
        let own = held_feeds book i in
        let later = later_feeds book i (member_places book) l in
        let count : feeds_end book i - length before ≡ length own = omega (arith, length-append before own) in
        let f = feed_of book in
        let list : feeds ≡ map f before
        ++ (map f own ++ (map f later.0 ++ drop (length (map f (feeds_in_order book (member_places book)))) no_feeds)) =
        held.feed_array
        ∙ ap (λ js. map f js ++ drop (length (map f (feeds_in_order book (member_places book)))) no_feeds) later.1
        ∙ rw (
          map-append f (before ++ own) later.0,
          map-append f before own,
          append_assoc (map f before) (map f own) (map f later.0),
        ) (append_assoc (map f before) (map f own ++ map f later.0) _
        ∙ ap (λ fs. map f before ++ fs) (append_assoc (map f own) (map f later.0) _))
        in
        ap (take (feeds_end book i - length before))
        (ap (drop (length before)) list ∙ drop_at (map f before) _ (length before) (length-map before f))
        ∙ take_at (map f own) _ (feeds_end book i - length before) (length-map own f ∙ sym count)

-- Each of five numbers is in its place.
pub five_at : (number : ℕ → ℕ) (which : ℕ) → which < coefficient_count → get_or (five number) which 0 ≡ number which
five_at number zero l = refl
five_at number (suc zero) l = refl
five_at number (suc (suc zero)) l = refl
five_at number (suc (suc (suc zero))) l = refl
five_at number (suc (suc (suc (suc zero)))) l = refl
five_at number (suc (suc (suc (suc (suc which))))) l = absurd (omega arith)
