-- A lent list filled with an accepted book's reported factors: the laws of a list filled in member order, of them.
-- Each member's inflow fits a word, since it is at most the whole of the parent's factor.
use Prim.Native.Nat.{ℕ, zero, suc, ◌+◌, ◌*◌, ◌/◌, ◌^◌, ◌≤◌, ◌<◌}
use mathlib.Core.Path.{◌≡◌, ◌∙◌}
use mathlib.Core.List.{List, ◌++◌}
use native.Mathlib.Nat.{mul-le-mul_right}
use native.Mathlib.Omega.{arith}
use lib.ListN.{length, set, drop}
use Rattle.book.specs.Fields.{members, scale_of, half_life}
use Rattle.book.specs.BookGrounds.{Accepted}
use Rattle.book.proofs.Filled.{Filled, filled_all}
use Rattle.book.proofs.Ranges.{accepted_ranges}
use Rattle.book.specs.Rates.{rates_at}
use Rattle.book.proofs.Rates.{scale_positive, scale_within, rate_is}
use Rattle.balance.specs.Chain.{chain_of}
use Rattle.balance.specs.Sound.{Sound}
use Rattle.balance.specs.Inflow.{Fed}
use Rattle.balance.specs.Balance.{G, K, inflow, reported}
use Rattle.balance.specs.Factors.{factor_at, factors_at}
use Rattle.balance.proofs.AnyChain.Reported.{kept_part}
use Rattle.balance.proofs.Filling.FilledInOrder.{inflow_filled, next_filled, parent_filled, filled_in_order}
use Rattle.balance.proofs.AnyChain.SoundFactors.{inflow_at_most_g}
use Rattle.balance.proofs.FromBook.AcceptedSound.{accepted_sound}

-- As much as a scale's worth of the parent's factor fits a word.
pub word_holds : {scale amount : ℕ} → scale ≤ 1000000 → amount ≤ scale * G → amount < 2 ^ 64
word_holds within most = omega (arith, mul-le-mul_right G within)

module _ (book : List ℕ) (accepted : Accepted book) where
  sound : Sound (scale_of book) (chain_of book)
  sound = accepted_sound book accepted

  some : 1 ≤ members book
  some = (accepted_ranges book accepted).members_count.from

  module _ (v : ℕ) where
    abbrev part : ℕ → ℕ → ℕ
    part = kept_part (scale_of book) (chain_of book) (rates_at book v)

    -- Before the first turn the parent's place is filled, and after the last one all are.
    pub parent_placed :
        (out : List ℕ) → members book ≤ length out →
        Filled (factor_at book v) (set out 0 G) (members book) 1 (set out 0 G)
    unfolding reported
    parent_placed out = parent_filled (chain_of book) part out some

    pub all_placed :
        (out : List ℕ) {now : List ℕ} {i : ℕ} → Filled (factor_at book v) (set out 0 G) (members book) i now →
        members book ≤ i → now ≡ factors_at book v ++ drop (members book) out
    unfolding reported
    all_placed out h done = filled_all h done ∙ filled_in_order (chain_of book) part (members book) out some

    inflow_bound :
        {list now : List ℕ} (i : ℕ) → 1 ≤ i → i < members book → Filled (factor_at book v) list (members book) i now →
        inflow now ((chain_of book).feeds i) ≤ scale_of book * G
    unfolding reported
    inflow_bound zero later l h = absurd (omega arith)
    inflow_bound (suc i) later l h =
        rw (inflow_filled (chain_of book) part sound i l h)
        (inflow_at_most_g (scale_positive book) sound (rates_at book v) i l)

    -- The places filled so far let the next member's inflow be summed, and the factor made of it fills the next place.
    module _
        {i : ℕ} (later : 1 ≤ i) (l : i < members book) {list now : List ℕ}
        (h : Filled (factor_at book v) list (members book) i now) where
      pub fed : Fed book i now
      fed =
          record {
            member = l;
            enough = omega (arith, h.capacity, h.size);
            fits = word_holds (scale_within book) (inflow_bound i later l h);
          }

      pub member_filled :
          {summed scale life factor : ℕ} → summed ≡ inflow now ((chain_of book).feeds i) →
          scale ≡ scale_of book → life ≡ half_life book i → factor ≡ summed / scale * K / (K + v * life) →
          Filled (factor_at book v) list (members book) (i + 1) (set now i factor)
      unfolding reported
      member_filled sums scales lives made =
          next_filled (chain_of book) part sound i later l l h (rw (sums, scales, lives, rate_is book v i) at made)
