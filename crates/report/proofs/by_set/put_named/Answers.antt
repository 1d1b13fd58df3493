-- The line of the set, the report and the line of the rate are handed over one after the other.
use Rattle.text.proofs.Pieces.{and_then}
use Rattle.report.specs.BySet.{named_text}
use Rattle.report.proofs.by_set.put_named.Goals as goal

pub returns-in-Ok : goal.returns-in-Ok
unfolding named_text
returns-in-Ok g c =
    let laws = g.met.S.Sink.laws in
    let set = rw (c.from-in-Ok.ensures, c.from.ensures) at c.put_line.ensures in
    rw c.in-Ok.is (and_then laws (and_then laws set c.put_answer.ensures) c.put_rate.ensures)
