use Rattle.wide.proofs.Carrying.{Carried}
use Rattle.wide.proofs.columns.settle.Given as goal

abbrev pub invariant-loop-i : goal.invariant-loop-i
invariant-loop-i l = Carried l.columns l.limbs l.carry l.i
