-- Each turn hands one line more over, for which there is room, since there is for all of them together.
use Rattle.std.proofs.Common.{arith}
use Rattle.text.proofs.Pieces.{none, roomy, more, all}
use Rattle.report.proofs.lines.put_factor_lines.Goals as goal

pub loop-i-init : goal.loop-i-init
loop-i-init g c = none g.met.S.Sink.laws c.requires

pub put_factor_line-requires : goal.put_factor_line-requires
put_factor_line-requires g c = roomy g.met.S.Sink.laws c.loop-i.invariant (omega arith)

pub loop-i-preserved : goal.loop-i-preserved
loop-i-preserved g c = more g.met.S.Sink.laws c.loop-i.invariant (omega arith) c.put_factor_line.ensures

pub returns : goal.returns
returns g c = all g.met.S.Sink.laws c.loop-i.invariant (omega arith)
