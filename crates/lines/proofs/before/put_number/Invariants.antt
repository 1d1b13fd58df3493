use Rattle.lines.proofs.FromTheEnd.{Begun}
use Rattle.lines.proofs.before.put_number.Given as goal

abbrev pub invariant-loop-left : goal.invariant-loop-left
invariant-loop-left l = Begun l.n l.end l.fn.out l.left l.at l.out

abbrev pub decreases-loop-left : goal.decreases-loop-left
decreases-loop-left l = l.left
