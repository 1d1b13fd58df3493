-- The places that are written are the first of the list.
use Rattle.std.proofs.Common.{arith, ◌<◌}
use lib.Seq.{length-take-le}
use Rattle.book.proofs.Filled.{filled_none, filled_more}
use Rattle.book.proofs.filling.fill_first.Goals as goal

pub loop-i-init : goal.loop-i-init
loop-i-init g c f made = filled_none (omega (arith, length-take-le c.args.count c.args.list.now c.requires.capacity))

pub loop-i-preserved : goal.loop-i-preserved
loop-i-preserved g c f made =
    let within : c.loop-i.i < c.args.count =
    omega (arith, length-take-le c.args.count c.args.list.now c.requires.capacity) in
    filled_more (c.loop-i.invariant f made) within (made c.loop-i.i c.make.result within c.make.ensures)
