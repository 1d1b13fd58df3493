-- Factors made in member order: one for each member, and a new member leaves the earlier ones as they were.
-- Each step only appends, so place k holds what was made for member k, of what was made for the members that feed it.
use Prim.Native.Nat.{ℕ, zero, suc, ◌≤◌, ◌<◌}
use native.Mathlib.Decide.{le_ind}
use native.Mathlib.Omega.{arith}
use mathlib.Core.Path.{◌≡◌, refl, ap, ◌∙◌}
use lib.ListN.{length, get_or, length-append, get_or-append}
use lib.Seq.{get_or_at}
use Rattle.book.specs.Held.{up_to}
use Rattle.balance.specs.Chain.{Chain}
use Rattle.balance.specs.Sound.{Sound}
use Rattle.balance.specs.Balance.{G, inflow, in_member_order}
use Rattle.balance.proofs.AnyChain.Inflow.{inflow_of, inflow_of_list, inflow_same}

-- Parts that agree of every member make the same factors.
pub made_alike :
    (chain : Chain) (part other : ℕ → ℕ → ℕ) (last : ℕ) → ((i fed : ℕ) → i ≤ last → part i fed ≡ other i fed) →
    in_member_order chain part last ≡ in_member_order chain other last
unfolding in_member_order
made_alike chain part other zero same = refl
made_alike chain part other (suc last) same =
    let earlier = made_alike chain part other last (λ i fed le. same i fed (omega arith)) in
    rw (earlier, same (suc last) (inflow (in_member_order chain other last) (chain.feeds (suc last))) (omega arith))

module _ (chain : Chain) (part : ℕ → ℕ → ℕ) where
  -- What is made for member k.
  abbrev pub made : ℕ → ℕ
  made k = get_or (in_member_order chain part k) k 0

  pub made_length : (i : ℕ) → length (in_member_order chain part i) ≡ suc i
  unfolding in_member_order
  made_length zero = refl
  made_length (suc i) = let ih = made_length i in simp length-append (omega arith)

  made_stable : (i k : ℕ) → k ≤ i →
      get_or (in_member_order chain part (suc i)) k 0 ≡ get_or (in_member_order chain part i) k 0
  unfolding in_member_order
  made_stable i k le = get_or-append (in_member_order chain part i) _ 0 k (omega (arith, made_length i))

  -- Earlier factors do not change.
  pub made_at : (i k : ℕ) → k ≤ i → get_or (in_member_order chain part i) k 0 ≡ made k
  made_at i k le =
      le_ind (λ m. get_or (in_member_order chain part m) k 0 ≡ made k) refl (λ m h ih. made_stable m k h ∙ ih) i le

  pub made_parent : made 0 ≡ G
  unfolding in_member_order
  made_parent = refl

  pub made_next : (i : ℕ) → made (suc i) ≡ part (suc i) (inflow (in_member_order chain part i) (chain.feeds (suc i)))
  unfolding in_member_order
  made_next i = get_or_at (in_member_order chain part i) _ _ 0 (suc i) (made_length i)

  pub made_up_to : (i : ℕ) → up_to (suc i) made ≡ in_member_order chain part i
  unfolding up_to in_member_order
  made_up_to zero = refl
  made_up_to (suc i) = rw (made_up_to i, made_next i)

  module _ {scale : ℕ} (sound : Sound scale chain) where
    pub made_inflow :
        (k : ℕ) → suc k < chain.count →
        inflow (in_member_order chain part k) (chain.feeds (suc k)) ≡ inflow_of made (chain.feeds (suc k))
    made_inflow k l =
        inflow_of_list (in_member_order chain part k) (chain.feeds (suc k))
        ∙ inflow_same
        (λ j. get_or (in_member_order chain part k) j 0)
        made
        (suc k)
        (chain.feeds (suc k))
        (sound.from_lower (suc k) l)
        (λ j h. made_at k j (omega arith))

    pub made_later : (k : ℕ) → suc k < chain.count → made (suc k) ≡ part (suc k) (inflow_of made (chain.feeds (suc k)))
    made_later k l = made_next k ∙ ap (part (suc k)) (made_inflow k l)
