-- Restated in quarter hours, X and Y have the factor 4, and B has it too: so verdict and level are those of the
-- formulas in whole hours.
use Prim.Native.Nat.{ℕ, ◌*◌}
use native.Mathlib.Omega.{arith}
use mathlib.Core.Path.{◌≡◌}
use Rattle.exposure.specs.declared.kind.Kind.{Kind}
use Rattle.verdict.specs.Verdict.{bound}
use Rattle.verdict.specs.WholeHours.{hours_bound, RestatedPromise}
use Rattle.verdict.proofs.Proportion.{same_verdicts}

bound_restated : (kind : Kind) (target : ℕ) → bound kind target ≡ 4 * hours_bound kind target
bound_restated Kind.Risk target = omega arith
bound_restated Kind.Dose target = omega arith

pub restated : RestatedPromise
restated by count coefficient factor =
    same_verdicts by.kind by.x by.y (hours_bound by.kind by.target) (4 * by.x) (4 * by.y) by.target
    count coefficient factor 1 4
    (omega arith)
    (omega arith)
    (omega arith)
    (omega arith)
    (omega (arith, bound_restated by.kind by.target))
