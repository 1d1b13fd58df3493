-- Each turn writes the next of the answers ahead.
use Rattle.std.proofs.Common.{rules, pos, w64, get_or}
use Rattle.std.proofs.lemmas.Int.{to_z-of_z}
use Rattle.case_texts.specs.Texts.{signed}
use Rattle.case_texts.proofs.Turns.{item_written, all_written}
use Rattle.case_texts.proofs.words.push_answers.Goals as goal

pub loop-answer-preserved : goal.loop-answer-preserved
loop-answer-preserved c =
    let answer = get_or c.args.list.now c.loop-answer.answer-index (pos 0) in
    item_written signed c.args.list.now c.loop-answer.answer-index c.loop-answer.text.items (pos 0) (search rules)
    (rw (to_z-of_z w64 answer (search rules)) at c.in_ok-push_signed.ensures) c.loop-answer.invariant

pub returns : goal.returns
returns c =
    all_written signed c.args.list.now c.loop-answer.answer-index c.loop-answer.text.items c.loop-answer-test.false
    c.loop-answer.invariant
