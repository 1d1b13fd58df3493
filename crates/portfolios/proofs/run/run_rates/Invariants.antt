use Rattle.std.proofs.Common.{length, ◌-◌}
use Rattle.portfolios.proofs.Running.{Running}
use Rattle.portfolios.proofs.run.run_rates.Given as goal

abbrev pub invariant-loop-i : goal.invariant-loop-i
invariant-loop-i l = Running l.width l.chain.bytes.now l.rates l.initial.rows l.i l.at l.answers l.rows

abbrev pub decreases-loop-i : goal.decreases-loop-i
decreases-loop-i l = length l.rates - l.i
