-- The two lines are handed over one after the other.
use Rattle.text.proofs.Pieces.{and_then}
use Rattle.report.proofs.lines.put_working.Goals as goal

pub returns-in-Some : goal.returns-in-Some
returns-in-Some g c = rw c.in-Some.is (and_then g.met.S.Sink.laws c.put_line.ensures c.put_line-in-Some.ensures)
