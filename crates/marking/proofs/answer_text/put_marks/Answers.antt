-- The lines are handed over one after the other, which is handing over all of them.
use Rattle.text.proofs.Pieces.{and_then}
use Rattle.marking.proofs.answer_text.put_marks.Goals as goal

pub returns : goal.returns
returns g c =
    let laws = g.met.S.Sink.laws in
    and_then laws (and_then laws (and_then laws c.put_line.ensures c.put_line-2.ensures) c.put_line-3.ensures)
    c.put_first.ensures
