-- The numbers of the working levels: none's where Fm's divisor is 0, and elsewhere Fm's and a smaller one than none's.
use Prim.Native.Nat.{ℕ, ◌*◌, ◌≤◌, ◌<◌}
use native.Mathlib.Omega.{arith}
use native.Mathlib.Nat.{le_trans, lt_of_le_of_lt, mul-le-mul, mul-le-mul_left}
use mathlib.Core.Path.{◌≡◌, refl}
use mathlib.Core.Bool.{false}
use borrow.Author.Tests.{ne_eqb}
use lib.Dec.{lit<, eqb}
use Rattle.std.proofs.Math.Nat.{div-le_self}
use Rattle.verdict.specs.Verdict.{max_level}
use Rattle.verdict.specs.WorkingLevels.{equilibrium, working_levels, no_figure, equilibrium_number, micro_number}

pub none_there :
    (r C W : ℕ) {z : ℕ} → z ≡ 0 →
    (equilibrium_number (working_levels r z C W) ≡ no_figure) × (micro_number (working_levels r z C W) ≡ no_figure)
unfolding working_levels
none_there r C W e = rw e (refl, refl)

pub some_there :
    (r z C W : ℕ) → 0 < z → equilibrium r z ≤ 1000000 → C ≤ max_level →
    (equilibrium_number (working_levels r z C W) ≤ 1000000) × (micro_number (working_levels r z C W) < no_figure)
unfolding working_levels
some_there r z C W pos whole within =
    let some : eqb z 0 ≡ false = ne_eqb z 0 (λ none. omega (arith, none, pos)) in
    let most : 10 * C * equilibrium r z ≤ 10 * max_level * 1000000 = mul-le-mul (mul-le-mul_left 10 within) whole in
    rw some (whole, lt_of_le_of_lt (le_trans (div-le_self _ _) most) (lit< tt))
