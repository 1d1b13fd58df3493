-- The figures' lines are handed over one after the other, which is handing over all of them.
use Rattle.text.proofs.Pieces.{and_then}
use Rattle.report.proofs.lines.put_figures.Goals as goal

pub returns : goal.returns
returns g c =
    let laws = g.met.S.Sink.laws in
    let judged = and_then laws c.put_line.ensures c.put_verdict.ensures in
    let level = rw c.from.ensures at c.put_line-2.ensures in
    and_then laws (and_then laws judged level) c.put_working.ensures
