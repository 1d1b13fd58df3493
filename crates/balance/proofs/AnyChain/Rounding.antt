-- One member's balance as arithmetic: its two roundings, and how an order between two balances passes from the inflows
-- to the members. Throughout, s is the scale, D the removal K + v × T, and P a denominator of exact factors. Each fact
-- is multiplied out, added and cancelled.
use Prim.Native.Nat.{ℕ, ◌+◌, ◌*◌, ◌/◌, ◌≤◌, ◌<◌}
use native.Mathlib.Nat.{mul-le-mul_left, mul-le-mul_right, mul-pos, mul-lt-mul_of_pos_left}
use native.Mathlib.Nat.{le_of_mul-le-mul_left, lt_of_mul-lt-mul_left, mul-div-le}
use native.Mathlib.Nat.{lt-mul-div-succ, le-div_iff_mul-le, div-mul-le_self, le_trans}
use native.Mathlib.Omega.{arith}
use mathlib.Core.Path.{◌≡◌, ap}

-- Both divisions round down.
pub rounded_below : (s D K inflow : ℕ) → s * D * (inflow / s * K / D) ≤ K * inflow
rounded_below s D K inflow =
    let q = inflow / s in
    let first = mul-le-mul_left K (mul-div-le inflow s) in
    let second = mul-le-mul_left s (mul-div-le (q * K) D) in
    omega arith

-- Each by less than one.
pub rounded_little :
    (s D K inflow : ℕ) → 0 < s → 0 < D → K ≤ D → K * inflow < s * D * (inflow / s * K / D) + 2 * (s * D)
rounded_little s D K inflow pos pos_d le =
    let q = inflow / s in
    let first = mul-le-mul_left K (lt-mul-div-succ inflow pos) in
    let second = mul-le-mul_left s (lt-mul-div-succ (q * K) pos_d) in
    let decay = mul-le-mul_left s le in
    omega arith

-- Decay is part of removal, so a member is at most its inflow.
pub at_most_inflow : (s D K inflow y : ℕ) → 0 < D → K ≤ D → s * D * y ≤ K * inflow → s * y ≤ inflow
at_most_inflow s D K inflow y pos_d le h =
    le_of_mul-le-mul_left {k = D} (omega (arith, mul-le-mul_right inflow le)) pos_d

-- A member r over one whole that loses at least as much to removal as an exact one x over another.
pub order_passes :
    (s D D' K p g x r inflow_x inflow_r : ℕ)
    → 0 < s
    → 0 < D
    → D ≤ D'
    → s * D * x ≡ K * inflow_x
    → s * D' * r ≤ K * inflow_r
    → p * inflow_r ≤ g * inflow_x
    → p * r ≤ g * x
order_passes s D D' K p g x r inflow_x inflow_r pos pos_d le exact lower inflows =
    let removed = mul-le-mul_left (s * p * r) le in
    let lowered = mul-le-mul_left p lower in
    let fed = mul-le-mul_left K inflows in
    let whole = ap (λ t. g * t) exact in
    le_of_mul-le-mul_left {k = s * D} (omega arith) (mul-pos pos pos_d)

-- What a member lacks, a, is less than what its feeds lack and two grains more.
pub loss_passes :
    (s D K P g x r a inflow_x inflow_r inflow_a : ℕ)
    → 0 < P
    → K ≤ D
    → s * D * x ≡ K * inflow_x
    → K * inflow_r < s * D * r + 2 * (s * D)
    → a + P * r ≡ g * x
    → g * inflow_x ≤ inflow_a + P * inflow_r
    → s * a < inflow_a + 2 * (s * P)
loss_passes s D K P g x r a inflow_x inflow_r inflow_a pos le exact little lack inflows =
    let rounded = mul-lt-mul_of_pos_left little pos in
    let member = ap (λ t. s * D * t) lack in
    let whole = ap (λ t. g * t) exact in
    let fed = mul-le-mul_left K inflows in
    let decay = mul-le-mul_right inflow_a le in
    lt_of_mul-lt-mul_left D (omega arith)

-- A quotient rounded down keeps the order.
pub quotient_mono : (d x y : ℕ) → 0 < d → x ≤ y → x / d ≤ y / d
quotient_mono d x y pos le = (le-div_iff_mul-le pos).1 (le_trans (div-mul-le_self x d) le)

-- A larger inflow and a lower removal give no smaller factor.
pub rounded_mono :
    (s D D' K inflow inflow' : ℕ) → 0 < s → 0 < D → D ≤ D' → inflow' ≤ inflow →
    inflow' / s * K / D' ≤ inflow / s * K / D
rounded_mono s D D' K inflow inflow' pos pos_d le less =
    let q' = inflow' / s in
    let r' = q' * K / D' in
    let first = quotient_mono s inflow' inflow pos less in
    (le-div_iff_mul-le pos_d).1
    (omega (arith, mul-le-mul_left r' le, div-mul-le_self (q' * K) D', mul-le-mul_right K first))
