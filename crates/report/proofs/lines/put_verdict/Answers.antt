-- The words are handed over one after the other, which is handing the line.
use Rattle.text.proofs.Pieces.{and_then}
use Rattle.report.specs.Report.{verdict_line}
use Rattle.report.proofs.lines.put_verdict.Goals as goal

pub returns : goal.returns
unfolding verdict_line
returns g c =
    let laws = g.met.S.Sink.laws in
    and_then laws (and_then laws c.word.ensures (rw c.word_of.ensures at c.word-2.ensures)) c.word-3.ensures
