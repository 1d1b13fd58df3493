-- One member's minute as arithmetic: it rises with the old factor and the inflow, and it stays below an exact steady
-- one. A is 6,000 × T, D the removal of the steady balance, and E the divisor of the minute, which is no less than
-- A + D. Each fact is multiplied out, added and cancelled.
use Prim.Native.Nat.{ℕ, ◌+◌, ◌*◌, ◌/◌, ◌≤◌, ◌<◌}
use native.Mathlib.Nat.{mul-le-mul_left, mul-le-mul_right, le_of_mul-le-mul_left, mul-div-le}
use native.Mathlib.Omega.{arith}
use mathlib.Core.Path.{◌≡◌, ap}
use Rattle.balance.specs.Balance.{K}
use Rattle.balance.proofs.AnyChain.Rounding.{quotient_mono}

pub step_rises :
    (s A K E old more fed fed_more : ℕ) → 0 < s → 0 < E → old ≤ more → fed ≤ fed_more →
    (A * old + K * (fed / s)) / E ≤ (A * more + K * (fed_more / s)) / E
step_rises s A K E old more fed fed_more pos pos_e older feds =
    let F = fed / s in
    let H = fed_more / s in
    let whole : F ≤ H = quotient_mono s fed fed_more pos feds in
    quotient_mono E _ _ pos_e (omega (arith, mul-le-mul_left A older, mul-le-mul_left K whole))

-- What comes in is below what the steady factor x loses, F being the inflow in whole grains.
inflow_below :
    (s D K p g x F fed fed_x : ℕ) → 0 < s → s * F ≤ fed → s * D * x ≡ K * fed_x → p * fed ≤ g * fed_x →
    K * (p * F) ≤ D * (g * x)
inflow_below s D K p g x F fed fed_x pos whole exact feds =
    let flows = mul-le-mul_left (K * p) whole in
    let fed_ones = mul-le-mul_left K feds in
    let steady = ap (λ t. g * t) exact in
    le_of_mul-le-mul_left {k = s} (omega arith) pos

-- A mean of two that are below y, or of less, is below y.
mean_below : (A D E old flow new y : ℕ) → 0 < E → A + D ≤ E → E * new ≤ A * old + flow → old ≤ y →
    flow ≤ D * y → new ≤ y
mean_below A D E old flow new y pos_e le mean below inflow =
    le_of_mul-le-mul_left {k = E} (omega (arith, mul-le-mul_left A below, mul-le-mul_right y le)) pos_e

pub step_below :
    (s A D E K p g x old fed fed_x : ℕ)
    → 0 < s
    → 0 < E
    → A + D ≤ E
    → s * D * x ≡ K * fed_x
    → p * old ≤ g * x
    → p * fed ≤ g * fed_x
    → p * ((A * old + K * (fed / s)) / E) ≤ g * x
step_below s A D E K p g x old fed fed_x pos pos_e le exact below feds =
    mean_below
    A
    D
    E
    (p * old)
    (K * (p * (fed / s)))
    _
    (g * x)
    pos_e
    le
    (omega (arith, mul-le-mul_left p (mul-div-le (A * old + K * (fed / s)) E)))
    below
    (inflow_below s D K p g x (fed / s) fed fed_x pos (mul-div-le fed s) exact feds)
