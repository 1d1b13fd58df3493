-- Each line is handed over, and all of them together have room.
use Rattle.std.proofs.Common.{arith}
use Rattle.text.proofs.Pieces.{roomy, more}
use Rattle.tables.proofs.lines.put_rate_lines.Goals as goal

pub put_rate_line-requires : goal.put_rate_line-requires
put_rate_line-requires g c = roomy g.met.S.Sink.laws c.loop-rate.invariant (omega arith)

pub loop-rate-preserved : goal.loop-rate-preserved
loop-rate-preserved g c = more g.met.S.Sink.laws c.loop-rate.invariant (omega arith) c.put_rate_line.ensures
