-- A lent list whose first places are filled with the factors made so far holds all that the next one is made of:
-- the feeds of a member come from lower members, whose factors stand in those places.
use Prim.Native.Nat.{ℕ, zero, suc, ◌+◌, ◌-◌, ◌≤◌, ◌<◌}
use mathlib.Core.Path.{◌≡◌, sym, ap, ◌∙◌}
use mathlib.Core.List.{List, ◌++◌}
use native.Mathlib.Omega.{arith}
use lib.ListN.{length, get_or, set, drop, length-set, get_or-append}
use lib.Seq.{set-set, drop-set-lt}
use Rattle.book.specs.Held.{filled}
use Rattle.book.proofs.Filled.{Filled, filled_none, filled_more}
use Rattle.book.specs.declared.feed.Feed.{Feed}
use Rattle.balance.specs.Chain.{Chain}
use Rattle.balance.specs.Sound.{FromBelow, Sound}
use Rattle.balance.specs.Balance.{G, inflow, in_member_order}
use Rattle.balance.proofs.AnyChain.Inflow.{inflow_of_list, inflow_same}
use Rattle.balance.proofs.AnyChain.MemberOrder.{made, made_length, made_parent, made_next, made_up_to}

-- The inflow reads no factor past the members that the feeds come from.
inflow_front : (k : ℕ) (factors rest : List ℕ) (feeds : List Feed) → FromBelow k feeds → length factors ≡ k →
    inflow (factors ++ rest) feeds ≡ inflow factors feeds
inflow_front k factors rest feeds below size =
    inflow_of_list (factors ++ rest) feeds
    ∙ inflow_same
    (λ j. get_or (factors ++ rest) j 0)
    (λ j. get_or factors j 0)
    k
    feeds
    below
    (λ j l. get_or-append factors rest 0 j (omega arith))
    ∙ sym (inflow_of_list factors feeds)

module _ (chain : Chain) (part : ℕ → ℕ → ℕ) where
  module _ {scale : ℕ} (sound : Sound scale chain) {list now : List ℕ} {n : ℕ} where
    pub inflow_filled : (i : ℕ) → suc i < chain.count → Filled (made chain part) list n (suc i) now →
        inflow now (chain.feeds (suc i)) ≡ inflow (in_member_order chain part i) (chain.feeds (suc i))
    inflow_filled i l h =
        rw (h.content, made_up_to chain part i)
        (inflow_front
        (suc i)
        (in_member_order chain part i)
        (drop (suc i) list)
        (chain.feeds (suc i))
        (sound.from_lower (suc i) l)
        (made_length chain part i))

    next_made : (i : ℕ) → 1 ≤ i → i < chain.count → Filled (made chain part) list n i now →
        part i (inflow now (chain.feeds i)) ≡ made chain part i
    next_made zero later l h = absurd (omega arith)
    next_made (suc i) later l h = ap (part (suc i)) (inflow_filled i l h) ∙ sym (made_next chain part i)

    -- The next factor, worked out from the list itself, fills the next place.
    pub next_filled : (i : ℕ) {v : ℕ} → 1 ≤ i → i < chain.count → i < n → Filled (made chain part) list n i now →
        v ≡ part i (inflow now (chain.feeds i)) → Filled (made chain part) list n (i + 1) (set now i v)
    next_filled i later l m h e = filled_more h m (e ∙ next_made i later l h)

  -- The parent's factor fills the first place.
  pub parent_filled : (out : List ℕ) {n : ℕ} → 1 ≤ n → n ≤ length out →
      Filled (made chain part) (set out 0 G) n 1 (set out 0 G)
  parent_filled out {n} some capacity =
      let once : Filled (made chain part) (set out 0 G) n 1 (set (set out 0 G) 0 G) =
      filled_more (filled_none (simp length-set capacity)) some (sym (made_parent chain part))
      in
      rw (set-set out 0 G G) at once

  -- Once all the members' places are filled, the list is the definition's.
  pub filled_in_order : (n : ℕ) (out : List ℕ) → 1 ≤ n →
      filled n (made chain part) (set out 0 G) ≡ in_member_order chain part (n - 1) ++ drop n out
  filled_in_order zero out some = absurd (omega arith)
  filled_in_order (suc n) out some =
      let e : suc n - 1 ≡ n = omega arith in
      rw (e, made_up_to chain part n, drop-set-lt (suc n) out 0 G some)
