-- A lent list that holds the factors of an accepted book's members keeps doing so minute
-- by minute: the parent is held, and no factor passes the exact steady one at rate 0.
-- These are the invariants of the loops over the minutes and over the periods.
use Prim.Native.Nat.{ℕ, suc, ◌+◌, ◌-◌, ◌≤◌, ◌<◌}
use native.Mathlib.Nat.{le_refl}
use native.Mathlib.Numerals.{add-one}
use native.Mathlib.Omega.{arith}
use mathlib.Core.Path.{◌≡◌, refl, sym, ap, ◌∙◌}
use mathlib.Core.List.{List, ◌++◌}
use lib.ListN.{length, get_or, take, drop, take-append-drop, length-append, length-replicate, get_or-append}
use lib.Seq.{length-take-le, take_at, drop_at}
use Rattle.std.specs.declared.slice.ChunksExact.{ChunksExact}
use Rattle.book.specs.Fields.{members, scale_of}
use Rattle.book.specs.BookGrounds.{Accepted}
use Rattle.book.proofs.Ranges.{accepted_ranges}
use Rattle.book.proofs.Rates.{scale_positive, rates_rise}
use Rattle.book.specs.Rates.{rates_at}
use Rattle.balance.specs.Chain.{chain_of}
use Rattle.balance.specs.Balance.{G}
use Rattle.balance.specs.Exact.{numerators, denominator}
use Rattle.balance.proofs.FromBook.AcceptedSound.{accepted_sound}
use Rattle.balance.proofs.AnyChain.Equations.{ExactFactors, exact_solves}
use Rattle.minutes.specs.Minutes.{start, minutes, rate_of, minutes_of, after_periods}
use Rattle.minutes.specs.Private.Holding.{BelowUnaired, Holds, minute_at, minutes_at, periods_at}
use Rattle.minutes.proofs.Minute.{minute_front}
use Rattle.minutes.proofs.Pairs.{PairAt}
use Rattle.minutes.proofs.Repeated.{start_below, minutes_below, minutes_length, minutes_parent}

module _ (book : List ℕ) (accepted : Accepted book) where
  abbrev scale : ℕ
  scale = scale_of book

  abbrev last : ℕ
  last = members book - 1

  pub members_are : suc last ≡ members book
  members_are = let some = (accepted_ranges book accepted).members_count.from in omega arith

  pub last_counts : last < members book
  last_counts = omega (arith, members_are)

  -- The exact steady factors at rate 0.
  pub unaired : ExactFactors scale (chain_of book) (rates_at book 0) last
      (denominator scale (chain_of book) (rates_at book 0) last)
      (λ k. get_or (numerators scale (chain_of book) (rates_at book 0) last) k 0)
  unaired = exact_solves scale (chain_of book) (rates_at book 0) (accepted_sound book accepted) last last_counts

  front_holds :
      (factors rest : List ℕ) → length factors ≡ members book → get_or factors 0 0 ≡ G →
      BelowUnaired book (λ i. get_or factors i 0) → Holds book (factors ++ rest)
  front_holds factors rest size first below =
      record {
        accepted = accepted;
        enough = rw length-append (omega arith);
        parent = get_or-append factors rest 0 0 (omega (arith, members_are)) ∙ first;
        below = λ i le. rw (get_or-append factors rest 0 i (omega (arith, members_are))) (below i le);
      }

-- After some minutes: the first places of a lent list hold these factors, and the others are as they were.
pub record Reached (book list factors now : List ℕ) : Type 0 where
  pub holds : Holds book now
  pub capacity : members book ≤ length list
  pub size : length factors ≡ members book
  pub content : now ≡ factors ++ drop (members book) list

pub reached_start :
    (book list rest : List ℕ) → Accepted book → list ≡ start (members book - 1) ++ rest →
    Reached book list (start (members book - 1)) list
reached_start book list rest accepted begun =
    let exact = unaired book accepted in
    let size : length (start (members book - 1)) ≡ members book =
    ap suc (length-replicate (members book - 1) 0) ∙ members_are book accepted in
    let x : ℕ → ℕ = λ k. get_or (numerators (scale_of book) (chain_of book) (rates_at book 0) (members book - 1)) k 0 in
    let below : BelowUnaired book (λ i. get_or (start (members book - 1)) i 0) =
    λ i le. start_below (members book - 1) _ x exact.parent i in
    let holds : Holds book list =
    rw begun (front_holds book accepted (start (members book - 1)) rest size refl below) in
    let dropped : drop (members book) list ≡ rest =
    rw begun (drop_at (start (members book - 1)) rest (members book) size) in
    record {
      holds = holds;
      capacity = holds.enough;
      size = size;
      content = begun ∙ ap (λ r. start (members book - 1) ++ r) (sym dropped);
    }

pub reached_here : (book list : List ℕ) → Holds book list → Reached book list (take (members book) list) list
reached_here book list holds =
    record {
      holds = holds;
      capacity = holds.enough;
      size = length-take-le (members book) list holds.enough;
      content = sym (take-append-drop (members book) list);
    }

module _ {book list factors now : List ℕ} (reached : Reached book list factors now) where
  accepted_here : Accepted book
  accepted_here = reached.holds.accepted

  pub reached_front : take (members book) now ≡ factors
  reached_front = rw reached.content (take_at factors (drop (members book) list) (members book) reached.size)

  pub reached_rest : drop (members book) now ≡ drop (members book) list
  reached_rest = rw reached.content (drop_at factors (drop (members book) list) (members book) reached.size)

  place : (i : ℕ) → i ≤ members book - 1 → get_or factors i 0 ≡ get_or now i 0
  place i le =
      let size = reached.size in
      rw reached.content
      (sym (get_or-append factors (drop (members book) list) 0 i (omega (arith, members_are book accepted_here))))

  -- The factors of k minutes more, worked out in the list itself.
  pub reached_minutes : (v k : ℕ) {after : List ℕ} →
      after ≡ minutes_at book v k (take (members book) now) ++ drop (members book) now →
      Reached book list (minutes_at book v k factors) after
  reached_minutes v k {after} passed =
      let last = members book - 1 in
      let size : length factors ≡ suc last = reached.size ∙ sym (members_are book accepted_here) in
      let content : after ≡ minutes_at book v k factors ++ drop (members book) list =
      rw (reached_front, reached_rest) at passed in
      let long =
      minutes_length (scale_of book) (chain_of book) (rates_at book v) last k factors size
      ∙ members_are book accepted_here in
      let first =
      minutes_parent (scale_of book) (chain_of book) (rates_at book v) last k factors
      (place 0 (omega arith) ∙ reached.holds.parent) in
      let below : BelowUnaired book (λ i. get_or (minutes_at book v k factors) i 0) =
      minutes_below
      (scale_positive book)
      (accepted_sound book accepted_here)
      last
      (last_counts book accepted_here)
      (λ j. rates_rise book 0 v j (omega arith))
      last
      (le_refl last)
      (unaired book accepted_here)
      factors
      (λ i le. rw (place i le) (reached.holds.below i le))
      k
      in
      record {
        holds =
            rw content
            (front_holds book accepted_here (minutes_at book v k factors) (drop (members book) list) long first below);
        capacity = reached.capacity;
        size = long;
        content = content;
      }

  -- And of one minute more.
  pub reached_minute :
      (v : ℕ) {after : List ℕ} → after ≡ minute_at book v now ++ drop (members book) now →
      Reached book list (minute_at book v factors) after
  unfolding minutes
  reached_minute v passed =
      let size : length factors ≡ suc (members book - 1) = reached.size ∙ sym (members_are book accepted_here) in
      let front =
      minute_front (scale_of book) (chain_of book) (rates_at book v) (members book - 1) factors
      (drop (members book) list) size in
      let same : minute_at book v now ≡ minute_at book v (take (members book) now) =
      ap (minute_at book v) reached.content ∙ front ∙ ap (minute_at book v) (sym reached_front)
      in
      reached_minutes v 1 (passed ∙ ap (λ f. f ++ drop (members book) now) same)

-- The loop over the minutes at one rate.
module _ {book list : List ℕ} (v : ℕ) where
  pub minutes_none : Holds book list → Reached book list (minutes_at book v 0 (take (members book) list)) list
  unfolding minutes
  minutes_none holds = reached_here book list holds

  pub minutes_more :
      (k : ℕ) {now after : List ℕ} → Reached book list (minutes_at book v k (take (members book) list)) now →
      after ≡ minute_at book v now ++ drop (members book) now →
      Reached book list (minutes_at book v (k + 1) (take (members book) list)) after
  unfolding minutes
  minutes_more k reached passed = rw (add-one k) (reached_minute reached v passed)

-- A list that was begun, in as many places as there are members.
pub record Begun (book entry list : List ℕ) (count : ℕ) : Type 0 where
  pub accepted : Accepted book
  pub capacity : members book ≤ length entry
  pub counted : count ≡ members book
  pub content : list ≡ start (count - 1) ++ drop count entry

-- The loop over the periods.
module _ {book entry list : List ℕ} {count : ℕ} (begun : Begun book entry list count) where
  begins : list ≡ start (members book - 1) ++ drop (members book) entry
  begins = rw begun.counted at begun.content

  begun_reached : Reached book list (start (members book - 1)) list
  begun_reached = reached_start book list (drop (members book) entry) begun.accepted begins

  pub periods_none : (periods : List ℕ) → Reached book list (periods_at book periods 0) list
  unfolding after_periods
  periods_none periods = begun_reached

pub periods_more :
    {book list periods period : List ℕ} {p : ℕ} {rest : ChunksExact ℕ} {now later : List ℕ} →
    PairAt periods p period rest → Reached book list (periods_at book periods p) now → later
    ≡ minutes_at book (get_or period 0 0) (get_or period 1 0) (take (members book) now) ++ drop (members book) now →
    Reached book list (periods_at book periods (p + 1)) later
unfolding after_periods
periods_more {periods = periods} {p = p} pair reached passed =
    rw (add-one p)
    (reached_minutes reached (rate_of periods p) (minutes_of periods p) (rw (pair.first, pair.second) at passed))
