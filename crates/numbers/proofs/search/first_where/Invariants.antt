-- The first number at which the test holds lies from `low` to `high`; each turn halves that span.
use Rattle.std.proofs.Common.{◌-◌, ◌≤◌}
use Rattle.numbers.specs.Bisection.{LiesBetween}
use Rattle.numbers.proofs.search.first_where.Given as goal

abbrev pub invariant-loop-low : goal.invariant-loop-low
invariant-loop-low g l =
    (l.low ≤ l.high) × (l.high ≤ l.fn.count) × LiesBetween (goal.F-post g l.fn.test) l.fn.count l.low l.high

abbrev pub decreases-loop-low : goal.decreases-loop-low
decreases-loop-low g l = l.high - l.low
