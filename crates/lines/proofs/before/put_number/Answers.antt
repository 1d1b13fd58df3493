-- Each time the four digits are those that the table holds.
use Rattle.std.proofs.Common.{◌%◌, arith}
use Rattle.lines.proofs.FromTheEnd.{room_for_four, four_more_put, rest_put}
use Rattle.lines.proofs.before.put_number.Goals as goal

pub loop-left-preserved : goal.loop-left-preserved
loop-left-preserved c =
    let room = room_for_four c.loop-left.invariant in
    four_more_put c.loop-left.invariant _ _ _ (omega arith) c.put_four.ensures (omega arith) c.loop-left-test.true
    (c.args.fours.now.right (c.loop-left.left % 10000) (omega arith))

pub returns : goal.returns
returns c =
    let room = room_for_four c.loop-left.invariant in
    let put =
    rest_put c.loop-left.invariant _ _ _ (omega arith) c.put_four-2.ensures c.loop-left-test.false
    (c.args.fours.now.right c.loop-left.left c.loop-left-test.false) c.digit_count.ensures
    in
    record { place = put.0; written = put.1 }
