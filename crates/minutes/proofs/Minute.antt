-- A minute's list is made in member order: what is made solves the minute's equations,
-- and reads of the old list only the members' own places.
use Prim.Native.Nat.{ℕ, suc, ◌≤◌, ◌<◌}
use native.Mathlib.Omega.{arith}
use mathlib.Core.Path.{◌≡◌, ap}
use mathlib.Core.List.{List, ◌++◌}
use lib.ListN.{length, get_or, get_or-append}
use Rattle.balance.specs.Chain.{Chain}
use Rattle.balance.specs.Sound.{Sound}
use Rattle.balance.proofs.AnyChain.MemberOrder.{made, made_length, made_at, made_parent, made_later, made_alike}
use Rattle.minutes.specs.Minutes.{new_factor, minute}
use Rattle.minutes.proofs.MinuteEquations.{Aged}

module _ (scale : ℕ) (chain : Chain) (rate : ℕ → ℕ) where
  -- What is made of a later member's inflow, and so member k's new factor, of the old ones.
  abbrev pub renewing : List ℕ → ℕ → ℕ → ℕ
  renewing old i fed = new_factor scale chain rate i (get_or old i 0) fed

  abbrev pub renewed : List ℕ → ℕ → ℕ
  renewed old = made chain (renewing old)

  pub renewed_ages :
      Sound scale chain → (last : ℕ) → last < chain.count → (old : List ℕ) →
      Aged scale chain rate last (λ k. get_or old k 0) (renewed old)
  renewed_ages sound last l old =
      record {
        parent = made_parent chain (renewing old);
        later = λ k h. made_later chain (renewing old) sound k (omega arith);
      }

  module _ (last : ℕ) where
    pub minute_is_renewed : (old : List ℕ) (k : ℕ) → k ≤ last →
        get_or (minute scale chain rate last old) k 0 ≡ renewed old k
    unfolding minute
    minute_is_renewed old = made_at chain (renewing old) last

    pub minute_length : (old : List ℕ) → length (minute scale chain rate last old) ≡ suc last
    unfolding minute
    minute_length old = made_length chain (renewing old) last

    -- What stands past the members' places is not read.
    pub minute_front : (old rest : List ℕ) → length old ≡ suc last →
        minute scale chain rate last (old ++ rest) ≡ minute scale chain rate last old
    unfolding minute
    minute_front old rest size =
        made_alike
        chain
        (renewing (old ++ rest))
        (renewing old)
        last
        (λ i fed le. ap (λ was. new_factor scale chain rate i was fed) (get_or-append old rest 0 i (omega arith)))
