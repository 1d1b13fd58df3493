-- The reported factors are made in member order: its laws, of them.
use Prim.Native.Nat.{ℕ, suc, ◌≤◌, ◌<◌, ◌/◌, ◌*◌}
use mathlib.Core.Path.{◌≡◌}
use lib.ListN.{length, get_or}
use Rattle.balance.specs.Chain.{Chain}
use Rattle.balance.specs.Sound.{Sound}
use Rattle.balance.specs.Balance.{G, K, inflow, removal, reported, reported_factor}
use Rattle.balance.proofs.AnyChain.Inflow.{inflow_of}
use Rattle.balance.proofs.AnyChain.MemberOrder.{made_length, made_at, made_parent, made_inflow, made_later}

module _ (scale : ℕ) (chain : Chain) (rate : ℕ → ℕ) where
  -- The part of a member's inflow that stays in the room.
  abbrev pub kept_part : ℕ → ℕ → ℕ
  kept_part i fed = fed / scale * K / removal chain rate i

  pub reported_length : (i : ℕ) → length (reported scale chain rate i) ≡ suc i
  unfolding reported
  reported_length = made_length chain kept_part

  pub reported_at : (i k : ℕ) → k ≤ i → get_or (reported scale chain rate i) k 0 ≡ reported_factor scale chain rate k
  unfolding reported
  reported_at = made_at chain kept_part

  pub reported_parent : reported_factor scale chain rate 0 ≡ G
  unfolding reported
  reported_parent = made_parent chain kept_part

  module _ (sound : Sound scale chain) (k : ℕ) (l : suc k < chain.count) where
    pub inflow_reported :
        inflow (reported scale chain rate k) (chain.feeds (suc k))
        ≡ inflow_of (reported_factor scale chain rate) (chain.feeds (suc k))
    unfolding reported
    inflow_reported = made_inflow chain kept_part sound k l

    pub reported_later :
        reported_factor scale chain rate (suc k)
        ≡ inflow_of (reported_factor scale chain rate) (chain.feeds (suc k)) / scale * K / removal chain rate (suc k)
    unfolding reported
    reported_later = made_later chain kept_part sound k l
