-- The share at `exponent` places is `scaled`, and has no more than four digits. A factor is at least one grain, so it
-- has no more than 13 places.
use Rattle.std.proofs.Common.{◌-◌}
use Rattle.entry.proofs.Places.{Scaling}
use Rattle.entry.proofs.scaling.share_of.Given as goal

abbrev pub invariant-loop-scaled : goal.invariant-loop-scaled
invariant-loop-scaled l = Scaling l.factor l.scaled l.exponent

abbrev pub decreases-loop-scaled : goal.decreases-loop-scaled
decreases-loop-scaled l = 14 - l.exponent
