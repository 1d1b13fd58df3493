-- After i turns the terms of the first i members are summed, each at most 2^32 times the cap.
use Rattle.std.proofs.Common.{◌≡◌, ◌*◌, ◌^◌, ◌≤◌}
use Rattle.numbers.specs.Sums.{sum_below}
use Rattle.verdict.specs.HeldNumbers.{raised_in}
use Rattle.verdict.proofs.weighted.column_sum.Given as goal

abbrev pub invariant-loop-i : goal.invariant-loop-i
invariant-loop-i l =
    (l.sum ≡ sum_below l.i (raised_in l.coefficients l.factors l.which l.margin l.cap))
    × (l.sum ≤ l.i * (2 ^ 32 * l.cap))
