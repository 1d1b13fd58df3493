-- Each entry is handed over, and all of them together have room.
use Rattle.std.proofs.Common.{arith}
use Rattle.text.proofs.Pieces.{roomy, more}
use Rattle.tables.proofs.lines.put_entries.Goals as goal

pub put_entry-requires-clause-fits : goal.put_entry-requires-clause-fits
put_entry-requires-clause-fits g c = roomy g.met.S.Sink.laws c.loop-factor.invariant (omega arith)

pub loop-factor-preserved : goal.loop-factor-preserved
loop-factor-preserved g c = more g.met.S.Sink.laws c.loop-factor.invariant (omega arith) c.put_entry.ensures
