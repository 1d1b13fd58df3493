-- No text is longer than the room, so all of it is written.
use Rattle.std.proofs.Common.{arith, ◌∙◌, length, ap}
use Rattle.text.proofs.Whole.{written, first, whole}
use Rattle.marking.proofs.MarksFit.{marks_fit}
use Rattle.marking.proofs.answer_text.marks_text.Goals as goal

pub put_answer-requires : goal.put_answer-requires
put_answer-requires c =
    let same = ap length c.new-writer.ensures.as_it_was in
    rw c.mark_table.ensures.answered
    (omega (arith, marks_fit c.args.text.now c.args.book.now, same, c.new-writer.ensures.nothing))

pub returns : goal.returns
returns c =
    let text = rw c.mark_table.ensures.answered at c.put_answer.ensures in
    let all = whole _ _ c.new-writer.ensures.nothing c.new-writer.ensures.as_it_was text in
    let report = first _ _ (c.length.ensures ∙ all.0) all.1 in
    let whole = written _ _ (omega (arith, marks_fit c.args.text.now c.args.book.now)) all.0 all.1 in
    record { within = report.0; written = report.1; whole = whole.1 }
