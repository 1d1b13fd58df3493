-- Summing a member's inflow along its feeds: what is summed so far and the inflow of the feeds still ahead make the
-- whole inflow. A turn moves the next feed from the second part to the first, so no partial sum is above the whole.
use Prim.Native.Nat.{ℕ, zero, suc, ◌+◌, ◌*◌, ◌≤◌, ◌<◌}
use mathlib.Core.Path.{◌≡◌, refl, ap, ◌∙◌}
use mathlib.Core.List.{List, [], ◌∷◌, map}
use native.Mathlib.Nat.{le_of_suc-le-suc}
use native.Mathlib.Numerals.{add-one}
use native.Mathlib.Omega.{arith}
use lib.ListN.{length, get_or, drop, drop_of_length-le}
use lib.Seq.{drop-cons}
use Rattle.book.specs.Held.{feed_of, held_feeds}
use Rattle.book.specs.BookGrounds.{Accepted}
use Rattle.book.specs.declared.feed.Feed.{Feed}
use Rattle.balance.specs.Chain.{chain_of}
use Rattle.balance.specs.Sound.{FromBelow}
use Rattle.balance.specs.Balance.{inflow}
use Rattle.balance.specs.Inflow.{Fed}
use Rattle.balance.proofs.FromBook.BookFeeds.{held_whole}
use Rattle.balance.proofs.FromBook.AcceptedSound.{accepted_sound}

-- A feed of the list comes from one of the members that all of them come from.
from_at : (n : ℕ) (feeds : List Feed) (k : ℕ) (other : Feed) → FromBelow n feeds → k < length feeds →
    (get_or feeds k other).from < n
from_at n [] k other below l = absurd (omega arith)
from_at n (feed ∷ feeds) zero other below l = below.0
from_at n (feed ∷ feeds) (suc k) other below l = from_at n feeds k other below.1 (le_of_suc-le-suc l)

-- Past the last none is ahead.
pub none_ahead : (factors : List ℕ) (feeds : List Feed) (k : ℕ) → length feeds ≤ k → inflow factors (drop k feeds) ≡ 0
none_ahead factors feeds k past = ap (inflow factors) (drop_of_length-le feeds past)

-- What a turn at place k reads: a member that has a factor, and the first of the feeds ahead.
pub record Turn (factors : List ℕ) (feeds : List Feed) (feed : Feed) (k : ℕ) : Type 0 where
  pub source : feed.from < length factors
  pub next :
      inflow factors (drop k feeds) ≡ feed.share * get_or factors feed.from 0 + inflow factors (drop (k + 1) feeds)

module _ {book : List ℕ} (accepted : Accepted book) {i : ℕ} {factors : List ℕ} (given : Fed book i factors)
    {feeds : List Feed} (held : feeds ≡ map (feed_of book) (held_feeds book i)) where
  -- They are the chain's.
  fed_feeds : feeds ≡ (chain_of book).feeds i
  fed_feeds = held ∙ ap (map (feed_of book)) (held_whole book accepted i given.member)

  pub fed_inflow : inflow factors feeds ≡ inflow factors ((chain_of book).feeds i)
  fed_inflow = ap (inflow factors) fed_feeds

  pub turn : (k : ℕ) (other : Feed) → k < length feeds → Turn factors feeds (get_or feeds k other) k
  turn k other l =
      let below : FromBelow i feeds = rw fed_feeds ((accepted_sound book accepted).from_lower i given.member) in
      let lower : (get_or feeds k other).from < i = from_at i feeds k other below l in
      record {
        source = omega (arith, given.member, given.enough);
        next = rw (drop-cons feeds k other l, add-one) refl;
      }
