-- After i turns the lines of the first i factors are handed over.
use Rattle.text.proofs.Pieces.{Handed}
use Rattle.report.specs.Report.{factor_line}
use Rattle.report.proofs.lines.put_factor_lines.Given as goal

abbrev pub invariant-loop-i : goal.invariant-loop-i
invariant-loop-i g l = Handed g.S.Sink.room g.S.Sink.Took factor_line l.factors l.initial.sink l.i l.sink
