-- The feeds in walk order, placed one by one: each goes to the next place, and where no feed is left, nothing is added.
use Prim.Native.Nat.{ℕ, suc, ◌+◌, ◌-◌, ◌≤◌, ◌<◌}
use mathlib.Core.Path.{◌≡◌, refl, sym, ◌∙◌}
use mathlib.Core.List.{List, [], ◌∷◌, ◌++◌, map, map-append, append_assoc, append-nil}
use native.Mathlib.Numerals.{add-one}
use native.Mathlib.Omega.{arith}
use lib.ListN.{length, set, drop, get_or, length-append, length-map}
use lib.Seq.{drop-cons, set_at}
use Rattle.book.specs.Limits.{max_feeds}
use Rattle.book.specs.Fields.{first_feed, next, along}
use Rattle.book.specs.Held.{over, feed_of, feeds_in_order, feeds_end}
use Rattle.book.specs.Private.Placed.{Placed, Extended}
use Rattle.book.specs.declared.feed.Feed.{Feed}
use Rattle.book.proofs.Filled.{Filled, filled_none, filled_more}

length_more : (done : List ℕ) (j : ℕ) → length (done ++ (j ∷ [])) ≡ suc (length done)
length_more done j = length-append done (j ∷ []) ∙ add-one (length done)

over_more : (front : List Feed) (v : Feed) (list : List Feed) (k : ℕ) → length front ≡ k → k < length list →
    set (over front list) k v ≡ over (front ++ (v ∷ [])) list
over_more front v list k e h =
    let more : length (front ++ (v ∷ [])) ≡ suc k = length-append front (v ∷ []) ∙ add-one (length front) ∙ rw e refl in
    rw (e, drop-cons list k v h, set_at front (get_or list k v) (drop (suc k) list) v k e, more)
    (sym (append_assoc front (v ∷ []) (drop (suc k) list)))

placed_more : {book done : List ℕ} {before feeds : List Feed} (j : ℕ) {at : ℕ} {v : Feed} →
    length done ≡ at → at < max_feeds → Placed book done before feeds → v ≡ feed_of book j →
    Placed book (done ++ (j ∷ [])) before (set feeds at v)
placed_more {book} {done} {before} j {at} e h p q =
    record {
      size = p.size;
      list =
          rw (p.list, q, map-append (feed_of book) done (j ∷ []))
          (over_more (map (feed_of book) done) (feed_of book j) before at (length-map done (feed_of book) ∙ e)
          (rw p.size h));
    }

module _ {book : List ℕ} {at : ℕ} {feeds : List Feed} where
  nothing : at ≤ max_feeds → Extended book [] at at feeds feeds
  nothing h = record { capacity = h; placed = λ before done size p. rw append-nil (size, p) }

  -- One feed, and then those after it.
  pub onward :
      {j end : ℕ} {v : Feed} {later : List ℕ} {feeds' : List Feed} → at < max_feeds → v ≡ feed_of book j →
      Extended book later (at + 1) end (set feeds at v) feeds' →
      Extended book (j ∷ later) at end feeds feeds'
  onward {j} {later = later} h q more =
      record {
        capacity = more.capacity;
        placed = λ before done size p.
            let larger : length (done ++ (j ∷ [])) ≡ at + 1 = omega (arith, length_more done j) in
            let all = more.placed before (done ++ (j ∷ [])) larger (placed_more j size h p q) in
            rw (append_assoc done (j ∷ []) later) at all;
      }

-- Of the feeds `all`, with these still to come: there is a place for each.
pub record Extending (book all : List ℕ) (start : ℕ) (feeds₀ feeds : List Feed) (left : List ℕ) (at : ℕ) : Type 0 where
  pub place : at + length left ≤ max_feeds
  pub rest :
      {end : ℕ} {feeds' : List Feed} →
      Extended book left at end feeds feeds' → Extended book all start end feeds₀ feeds'

pub extending_none :
    {book all : List ℕ} {feeds : List Feed} {start : ℕ} →
    start + length all ≤ max_feeds → Extending book all start feeds feeds all start
extending_none h = record { place = h; rest = λ more. more }

module _ {book all left : List ℕ} {feeds₀ feeds : List Feed} {start at : ℕ}
    (e : Extending book all start feeds₀ feeds left at) where
  pub extending_more :
      {j : ℕ} {v : Feed} {later : List ℕ} → left ≡ j ∷ later → v ≡ feed_of book j →
      Extending book all start feeds₀ (set feeds at v) later (at + 1)
  extending_more {j} {later = later} r q =
      let fits : at + length (j ∷ later) ≤ max_feeds = rw r at e.place in
      record { place = omega arith; rest = λ more. e.rest (rw r (onward (omega arith) q more)) }

  pub extending_all : left ≡ [] → Extended book all start at feeds₀ feeds
  extending_all r = e.rest (rw r (nothing (omega (arith, e.place))))

-- After i of `members` turns the feeds of the first i members stand in walk order, and each has its end.
pub record InOrder (book : List ℕ) (members : ℕ) (ends₀ : List ℕ) (i at : ℕ) (ends : List ℕ)
    (feeds₀ feeds : List Feed) : Type 0 where
  pub filled_ends : Filled (feeds_end book) ends₀ members i ends
  pub place : at ≤ max_feeds
  pub count : length (feeds_in_order book i) ≡ at
  pub placed : Placed book (feeds_in_order book i) feeds₀ feeds

pub in_order_none : {book ends : List ℕ} {feeds : List Feed} {members : ℕ} → members ≤ length ends →
    length feeds ≡ max_feeds → InOrder book members ends 0 0 ends feeds feeds
unfolding feeds_in_order
in_order_none capacity size =
    record {
      filled_ends = filled_none capacity;
      place = omega arith;
      count = refl;
      placed = record { size = size; list = refl };
    }

module _ {book ends₀ ends : List ℕ} {feeds₀ feeds : List Feed} {members i at : ℕ}
    (s : InOrder book members ends₀ i at ends feeds₀ feeds) where
  pub in_order_more :
      {end : ℕ} {feeds' : List Feed} → i < members →
      Extended book (along (next book) (max_feeds - at) (first_feed book i)) at end feeds feeds' →
      InOrder book members ends₀ (i + 1) end (set ends i end) feeds₀ feeds'
  unfolding feeds_in_order
  in_order_more {end} {feeds'} l more =
      let all = more.placed feeds₀ (feeds_in_order book i) s.count s.placed in
      let listed :
      feeds_in_order book i ++ along (next book) (max_feeds - at) (first_feed book i) ≡ feeds_in_order book (suc i) =
      rw (← s.count) refl in
      let next-all :
      (length (feeds_in_order book (suc i)) ≡ end) × Placed book (feeds_in_order book (suc i)) feeds₀ feeds' =
      rw listed at all in
      record {
        filled_ends = filled_more s.filled_ends l (sym next-all.0);
        place = more.capacity;
        count = rw add-one next-all.0;
        placed = rw add-one next-all.1;
      }
