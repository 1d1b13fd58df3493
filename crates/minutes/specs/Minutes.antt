-- The balance minute by minute (document 02, R-5), over the share's scale and a rate for each member.
use Rattle.std.specs.Prelude.{ℕ, zero, suc, ◌+◌, ◌*◌, ◌/◌, List, ◌∷◌, get_or, replicate}
use Rattle.balance.specs.Chain.{Chain}
use Rattle.balance.specs.Balance.{G, K, in_member_order}

-- Once a minute, in hundredths per hour.
abbrev pub once_a_minute : ℕ
once_a_minute = 6000

-- Member i's new factor, from its old one and its inflow, of which F is made:
-- (6,000 × T × old factor + K × F) / (K + (6,000 + v) × T), rounded down.
abbrev pub new_factor : ℕ → Chain → (ℕ → ℕ) → ℕ → ℕ → ℕ → ℕ
new_factor scale chain rate i old fed =
    let T = chain.half_life i in
    let F = fed / scale in
    (once_a_minute * T * old + K * F) / (K + (once_a_minute + rate i) * T)

-- One minute of members 0 to last, in member order: F is formed from this minute's factors, and member 0 is G always.
unfoldable pub minute : ℕ → Chain → (ℕ → ℕ) → ℕ → List ℕ → List ℕ
minute scale chain rate last old =
    in_member_order chain (λ i fed. new_factor scale chain rate i (get_or old i 0) fed) last

-- A room that was shut: member 0 is G, and the others start at 0.
abbrev pub start : ℕ → List ℕ
start last = G ∷ replicate last 0

-- k minutes at one rate.
unfoldable pub minutes : ℕ → Chain → (ℕ → ℕ) → ℕ → ℕ → List ℕ → List ℕ
minutes scale chain rate last zero factors = factors
minutes scale chain rate last (suc k) factors = minute scale chain rate last (minutes scale chain rate last k factors)

-- Periods, as a list of their rates and minutes in turn.
abbrev pub rate_of : List ℕ → ℕ → ℕ
rate_of periods p = get_or periods (2 * p) 0

abbrev pub minutes_of : List ℕ → ℕ → ℕ
minutes_of periods p = get_or periods (2 * p + 1) 0

-- The first p periods one after the other; each member's rate is given by the room's.
unfoldable pub after_periods : ℕ → Chain → (ℕ → ℕ → ℕ) → ℕ → List ℕ → ℕ → List ℕ
after_periods scale chain rates last periods zero = start last
after_periods scale chain rates last periods (suc p) =
    minutes scale chain (rates (rate_of periods p)) last (minutes_of periods p)
    (after_periods scale chain rates last periods p)
