-- An accepted book means a sound chain.
-- Ground 17 says that feeds come from lower members. Ground 18 bounds the shares of feeds 1 to m out of each member,
-- and the members' feeds are these, each once.
use Prim.Native.Nat.{ℕ, zero, suc, ◌≤◌, ◌<◌}
use native.Mathlib.Nat.{le_of_eq, le_trans}
use native.Mathlib.Omega.{arith}
use mathlib.Core.Path.{◌≡◌, refl}
use mathlib.Core.Bool.{false}
use mathlib.Core.List.{List, [], ◌∷◌, map, map-append}
use lib.Dec.{leb}
use borrow.Author.Tests.{leb-false}
use Rattle.book.specs.Fields.{members, feed_count, scale_of, from, feeds_of}
use Rattle.numbers.specs.Tests.{some_in}
use Rattle.book.specs.BookGrounds.{walk, share_out, feed_not_from_lower, Accepted}
use Rattle.book.specs.Held.{feed_of}
use Rattle.balance.specs.Chain.{chain_of}
use Rattle.balance.specs.Sound.{Sound, FromBelow, shares_from, feeds_below}
use Rattle.refusals.proofs.FirstMet.{neither}
use Rattle.numbers.proofs.NoneMet.{none_below}
use Rattle.book.proofs.BookPasses.{accepted_passes}
use Rattle.book.proofs.Ranges.{accepted_ranges}
use Rattle.balance.proofs.FromBook.Walk.{Listed}
use Rattle.balance.proofs.FromBook.OnceEach.{sum_over, once_each}
use Rattle.balance.proofs.FromBook.BookFeeds.{walk_listed}

module _ (book : List ℕ) where
  from_below : (i : ℕ) (js : List ℕ) → some_in js (λ j. leb i (from book j)) ≡ false →
      FromBelow i (map (feed_of book) js)
  unfolding some_in
  from_below i [] none = tt
  from_below i (j ∷ js) none =
      let parts = neither (leb i (from book j)) _ none in
      (leb-false i (from book j) parts.0, from_below i js parts.1)

  feeds_walked : (k : ℕ) → feeds_below (chain_of book) k ≡ map (feed_of book) (walk book k)
  unfolding walk
  feeds_walked zero = refl
  feeds_walked (suc k) = rw (feeds_walked k, map-append)

  shares_listed : (i m : ℕ) (js : List ℕ) → Listed m js →
      shares_from i (map (feed_of book) js) ≡ sum_over (λ j. share_out book i (suc j)) js
  shares_listed i m [] listed = refl
  shares_listed i m (zero ∷ js) listed = absurd (omega (arith, listed.0))
  shares_listed i m (suc j ∷ js) listed = let ih = shares_listed i m js listed.2 in omega arith

  module _ (accepted : Accepted book) where
    shares_at_most : (i : ℕ) → i < members book →
        shares_from i (feeds_below (chain_of book) (members book)) ≤ scale_of book
    shares_at_most i l =
        let ranges = accepted_ranges book accepted in
        let m = feed_count book in
        let js = walk book (members book) in
        let listed = walk_listed book accepted in
        rw (feeds_walked (members book), shares_listed i m js listed)
        (le_trans
        (once_each (λ j. share_out book i (suc j)) m js listed (λ j h. le_of_eq (ranges.feed j h).once))
        (ranges.member i l).shares_out)

    pub accepted_sound : Sound (scale_of book) (chain_of book)
    unfolding feed_not_from_lower
    accepted_sound =
        record {
          from_lower =
              λ k l. from_below k (feeds_of book k)
              (none_below (members book) _ (accepted_passes book accepted).from_lower k l);
          shares_out = shares_at_most;
        }
