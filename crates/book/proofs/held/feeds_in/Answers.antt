use Rattle.std.proofs.Common.{arith}
use Rattle.book.proofs.Placed.{in_order_none, in_order_more}
use Rattle.book.proofs.held.feeds_in.Goals as goal

pub loop-i-init : goal.loop-i-init
loop-i-init c = in_order_none (omega arith) c.requires.feeds_len

pub loop-i-preserved : goal.loop-i-preserved
loop-i-preserved c = in_order_more c.loop-i.invariant c.loop-i-test.true c.feeds_along-at.ensures
