-- The exact factors: the balance without rounding, a whole numerator over a whole denominator.
use Rattle.std.specs.Prelude.{ℕ, zero, suc, ◌*◌, List, [], ◌∷◌, ◌++◌, map, get_or}
use Rattle.balance.specs.Chain.{Chain}
use Rattle.balance.specs.Balance.{K, removal, inflow}

-- For member i the product of scale × (K + v × T) over members 1 to i.
unfoldable pub denominator : ℕ → Chain → (ℕ → ℕ) → ℕ → ℕ
denominator scale chain rate zero = 1
denominator scale chain rate (suc i) = denominator scale chain rate i * (scale * removal chain rate (suc i))

-- The numerators of members 0 to i, all over member i's denominator. A new member multiplies
-- the earlier ones by its own scale × (K + v × T), and takes in K times its feeds.
unfoldable pub numerators : ℕ → Chain → (ℕ → ℕ) → ℕ → List ℕ
numerators scale chain rate zero = 1 ∷ []
numerators scale chain rate (suc i) =
    let earlier = numerators scale chain rate i in
    map (λ x. x * (scale * removal chain rate (suc i))) earlier ++ (K * inflow earlier (chain.feeds (suc i)) ∷ [])

abbrev pub numerator : ℕ → Chain → (ℕ → ℕ) → ℕ → ℕ
numerator scale chain rate i = get_or (numerators scale chain rate i) i 0
