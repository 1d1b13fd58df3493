-- The balance (document 01, "Balance"), over the share's scale and a rate for each member.
use Rattle.std.specs.Prelude.{ℕ, zero, suc, ◌+◌, ◌*◌, ◌/◌, ◌^◌, min, List, [], ◌∷◌, ◌++◌, get_or}
use Rattle.book.specs.declared.feed.Feed.{Feed}
use Rattle.balance.specs.Chain.{Chain}

-- A grain is 2^-40 of the parent's activity; the parent has G grains.
abbrev pub G : ℕ
G = 2 ^ 40

-- 0.693147181, which serves as ln 2, times 3.6 × 10^14.
abbrev pub K : ℕ
K = 249532985160000

-- K + v × T: decay and ventilation together, at member i's rate.
abbrev pub removal : Chain → (ℕ → ℕ) → ℕ → ℕ
removal chain rate i = K + rate i * chain.half_life i

-- The sum over a member's feeds of share times the factor of from.
abbrev pub inflow : List ℕ → List Feed → ℕ
inflow factors [] = 0
inflow factors (feed ∷ feeds) = feed.share * get_or factors feed.from 0 + inflow factors feeds

-- The factors of members 0 to i, made in member order: the parent has G,
-- and each later member what `part` makes of its inflow.
unfoldable pub in_member_order : Chain → (ℕ → ℕ → ℕ) → ℕ → List ℕ
in_member_order chain part zero = G ∷ []
in_member_order chain part (suc i) =
    let factors = in_member_order chain part i in
    factors ++ (part (suc i) (inflow factors (chain.feeds (suc i))) ∷ [])

-- The reported factors of members 0 to i, in grains; each division is rounded down.
unfoldable pub reported : ℕ → Chain → (ℕ → ℕ) → ℕ → List ℕ
reported scale chain rate = in_member_order chain (λ i fed. fed / scale * K / removal chain rate i)

abbrev pub reported_factor : ℕ → Chain → (ℕ → ℕ) → ℕ → ℕ
reported_factor scale chain rate i = get_or (reported scale chain rate i) i 0

-- Member i's reported factor with 2i added, capped at G.
abbrev pub raised : ℕ → ℕ → ℕ
raised i factor = min (factor + 2 * i) G
