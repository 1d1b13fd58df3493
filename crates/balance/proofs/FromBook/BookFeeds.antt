-- The feeds of an accepted book: those of each member are 1 to m and at most m in number,
-- so the bound m + 1 cuts no list short. The walk through all members lists each feed once,
-- which bounds its length, and each member's list is a part of it. So the arrays have a
-- place for each feed of the walk, in its order, and each member's feeds are held whole.
use Prim.Native.Nat.{ℕ, zero, suc, ◌+◌, ◌-◌, ◌≤◌, ◌<◌}
use native.Mathlib.Nat.{le_refl, le_of_eq, le_trans}
use native.Mathlib.Decide.{le_ind}
use native.Mathlib.Omega.{arith}
use mathlib.Core.Path.{◌≡◌, refl, ap, ◌∙◌}
use mathlib.Core.List.{List, ◌++◌}
use lib.ListN.{length, length-append}
use Rattle.book.specs.Limits.{max_feeds}
use Rattle.book.specs.Fields.{members, feed_count, first_feed, next, along, feeds_of}
use Rattle.book.specs.Held.{feeds_in_order, held_feeds}
use Rattle.book.specs.BookGrounds.{walk, Accepted}
use Rattle.book.proofs.Ranges.{accepted_ranges}
use Rattle.balance.proofs.FromBook.Walk.{Listed, listed_append, along_listed, along_short}
use Rattle.balance.proofs.FromBook.OnceEach.{length_at_most}

module _ (book : List ℕ) (accepted : Accepted book) where
  pub feeds_listed : (i : ℕ) → i < members book → Listed (feed_count book) (feeds_of book i)
  feeds_listed i l =
      let ranges = accepted_ranges book accepted in
      along_listed
      (next book)
      (feed_count book)
      (λ j h. (ranges.feed j h).next_feed)
      (feed_count book + 1)
      (first_feed book i)
      (ranges.member i l).first

  walk_listed_below : (k : ℕ) → k ≤ members book → Listed (feed_count book) (walk book k)
  unfolding walk
  walk_listed_below zero le = tt
  walk_listed_below (suc k) le =
      listed_append (feed_count book) (walk book k) (feeds_of book k) (walk_listed_below k (omega arith))
      (feeds_listed k le)

  pub walk_listed : Listed (feed_count book) (walk book (members book))
  walk_listed = walk_listed_below (members book) (le_refl _)

  walk_length : length (walk book (members book)) ≤ feed_count book
  walk_length =
      length_at_most
      (feed_count book)
      (walk book (members book))
      walk_listed
      (λ j l. le_of_eq ((accepted_ranges book accepted).feed j l).once)

  -- Member i's feeds are a part of the walk, after those of the members before it.
  walk_holds : (i k : ℕ) → i < k → length (walk book i) + length (feeds_of book i) ≤ length (walk book k)
  unfolding walk
  walk_holds i k l =
      le_ind
      (λ k. length (walk book i) + length (feeds_of book i) ≤ length (walk book k))
      (omega (arith, length-append (walk book i) (feeds_of book i)))
      (λ k h ih. omega (arith, ih, length-append (walk book k) (feeds_of book k)))
      k
      l

  walk_part : (i : ℕ) → i < members book → length (walk book i) + length (feeds_of book i) ≤ feed_count book
  walk_part i l = le_trans (walk_holds i (members book) l) walk_length

  -- The bound m + 1 cuts no list short: with any more it is the same list.
  pub feeds_whole : (i : ℕ) → i < members book → (k : ℕ) →
      along (next book) (feed_count book + 1 + k) (first_feed book i) ≡ feeds_of book i
  feeds_whole i l k =
      along_short
      (next book)
      (feed_count book + 1 + k)
      (feed_count book + 1)
      (first_feed book i)
      (omega (arith, walk_part i l))
      (omega (arith, walk_part i l))

  -- So there is a place for each: with as many places as are left
  -- after those of the members before it, it is the same list.
  walk_uncut : (i : ℕ) → i < members book →
      along (next book) (max_feeds - length (walk book i)) (first_feed book i) ≡ feeds_of book i
  walk_uncut i l =
      let capacity = (accepted_ranges book accepted).feeds_count in
      along_short
      (next book)
      (max_feeds - length (walk book i))
      (feed_count book + 1)
      (first_feed book i)
      (omega (arith, walk_part i l))
      (omega (arith, walk_part i l))

  -- And the order in the array is the walk's.
  pub in_order : (i : ℕ) → i ≤ members book → feeds_in_order book i ≡ walk book i
  unfolding walk feeds_in_order
  in_order zero le = refl
  in_order (suc i) le =
      ap (λ before. before ++ along (next book) (max_feeds - length before) (first_feed book i))
      (in_order i (omega arith))
      ∙ ap (λ js. walk book i ++ js) (walk_uncut i le)

  -- Each member's feeds are held whole.
  pub held_whole : (i : ℕ) → i < members book → held_feeds book i ≡ feeds_of book i
  held_whole i l =
      ap (λ before. along (next book) (max_feeds - length before) (first_feed book i)) (in_order i (omega arith))
      ∙ walk_uncut i l
