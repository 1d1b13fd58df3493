-- The list of numerators: one for each member,
-- and a new member multiplies the earlier ones by its own scale × (K + v × T).
use Prim.Native.Nat.{ℕ, zero, suc, ◌*◌, ◌≤◌, ◌<◌}
use native.Mathlib.Nat.{mul-pos}
use native.Mathlib.Omega.{arith}
use mathlib.Core.Path.{◌≡◌, refl, ◌∙◌}
use mathlib.Core.List.{List, [], ◌∷◌, map}
use lib.ListN.{length, get_or, length-append, length-map, get_or-append}
use lib.Seq.{get_or_at}
use Rattle.balance.specs.Chain.{Chain}
use Rattle.balance.specs.Balance.{K, inflow, removal}
use Rattle.balance.specs.Exact.{numerators, denominator}

get_d_scaled : (c : ℕ) (l : List ℕ) (k : ℕ) → get_or (map (λ x. x * c) l) k 0 ≡ c * get_or l k 0
get_d_scaled c [] k = omega arith
get_d_scaled c (x ∷ l) zero = omega arith
get_d_scaled c (x ∷ l) (suc k) = get_d_scaled c l k

module _ (scale : ℕ) (chain : Chain) (rate : ℕ → ℕ) where
  pub denominator_pos : 0 < scale → (i : ℕ) → 0 < denominator scale chain rate i
  unfolding denominator
  denominator_pos pos zero = omega arith
  denominator_pos pos (suc i) = mul-pos (denominator_pos pos i) (mul-pos pos (omega arith))

  pub numerators_length : (i : ℕ) → length (numerators scale chain rate i) ≡ suc i
  unfolding numerators
  numerators_length zero = refl
  numerators_length (suc i) = let ih = numerators_length i in simp (length-append, length-map) (omega arith)

  pub numerators_earlier :
      (i k : ℕ)
      → k ≤ i
      → get_or (numerators scale chain rate (suc i)) k 0
      ≡ scale * removal chain rate (suc i) * get_or (numerators scale chain rate i) k 0
  unfolding numerators
  numerators_earlier i k le =
      let c = scale * removal chain rate (suc i) in
      let earlier = numerators scale chain rate i in
      get_or-append (map (λ x. x * c) earlier) _ 0 k (rw length-map (omega (arith, numerators_length i)))
      ∙ get_d_scaled c earlier k

  pub numerators_next :
      (i : ℕ)
      → get_or (numerators scale chain rate (suc i)) (suc i) 0
      ≡ K * inflow (numerators scale chain rate i) (chain.feeds (suc i))
  unfolding numerators
  numerators_next i =
      let earlier = numerators scale chain rate i in
      get_or_at (map (λ x. x * (scale * removal chain rate (suc i))) earlier) _ _ 0 (suc i)
      (rw length-map (numerators_length i))
