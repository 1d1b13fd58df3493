-- A read fills on where the one before it ended.
use Rattle.std.proofs.Common.{rules}
use Rattle.records.proofs.Consumed.{consumed}
use Rattle.records.proofs.input.read_full.Goals as goal

pub loop-done-preserved : goal.loop-done-preserved
loop-done-preserved g c =
    let read = c.in_ok-n.ensures in (
      search rules,
      consumed _ _ _ c.loop-done.done c.in_ok-n.n _ c.loop-done.into c.read.new.buf c.loop-done.invariant.0 read.bound.0
          c.loop-done.invariant.1 read.bytes.0,
    )
