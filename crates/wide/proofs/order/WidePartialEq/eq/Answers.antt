-- Limbs are equal where the numbers are.
use Rattle.std.proofs.Common.{◌∙◌}
use Rattle.wide.proofs.LimbOrder.{equality_is}
use Rattle.wide.proofs.order.WidePartialEq.eq.Goals as goal

pub returns : goal.returns
returns c = rw (← c.self.view_is, ← c.other.view_is) (c.eq.ensures ∙ equality_is c.self.invariant c.other.invariant)
