-- The word, the line and the member are handed over one after the other.
use Rattle.text.proofs.Pieces.{and_then}
use Rattle.marking.proofs.answer_text.put_first.Goals as goal

pub returns-in-Some : goal.returns-in-Some
returns-in-Some g c =
    let laws = g.met.S.Sink.laws in
    rw c.in-Some.is (and_then laws (and_then laws c.word.ensures c.number.ensures) c.put_line.ensures)
