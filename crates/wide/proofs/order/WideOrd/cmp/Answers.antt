-- The first limbs that differ, from the highest down, decide the order.
use Rattle.std.proofs.Common.{sym, ◌∙◌}
use Rattle.wide.proofs.LimbOrder.{order_is}
use Rattle.wide.proofs.order.WideOrd.cmp.Goals as goal

pub loop-x-init : goal.loop-x-init
loop-x-init c =
    rw (
      c.into_iter-x-iterator.ensures.into_iter_gives,
      c.zip-x-items.ensures.first,
      c.zip-x-items.ensures.second,
      c.iter.ensures.rest,
      c.iter-2.ensures.rest,
      ← c.self.view_is,
      ← c.other.view_is,
    )
    (order_is c.self.invariant c.other.invariant, c.self.invariant.six ∙ sym c.other.invariant.six)
