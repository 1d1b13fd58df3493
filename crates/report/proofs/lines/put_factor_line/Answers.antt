-- The word, the member's number and the rest of the line are handed over one after the other, which is handing over the
-- line.
use Rattle.text.proofs.Pieces.{and_then}
use Rattle.report.proofs.lines.put_factor_line.Goals as goal

pub returns : goal.returns
returns g c =
    let laws = g.met.S.Sink.laws in
    and_then laws (and_then laws c.word.ensures c.number.ensures) c.put_line.ensures
