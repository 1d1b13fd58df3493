-- One more place leaves four digits where the test says so.
use Rattle.std.proofs.Common.{arith}
use Rattle.entry.proofs.Places.{again}
use Rattle.entry.proofs.scaling.share_of.Goals as goal

pub loop-scaled-preserved : goal.loop-scaled-preserved
loop-scaled-preserved c = again c.loop-scaled.invariant (omega (arith, c.nearest.ensures))
