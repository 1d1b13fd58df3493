-- Each turn writes the next of the places ahead.
use Rattle.std.proofs.Common.{rules, ◌∙◌, append_assoc}
use Rattle.text.specs.Words.{ascii, decimal}
use Rattle.case_texts.proofs.Turns.{item_written, all_written}
use Rattle.case_texts.proofs.words.push_places.Goals as goal

pub loop-n-preserved : goal.loop-n-preserved
loop-n-preserved c =
    let old = c.loop-n.text.items in
    item_written decimal c.args.list.now c.loop-n.n-index old 0 (search rules)
    (c.in_ok-push_number.ensures ∙ append_assoc old (ascii " ") _) c.loop-n.invariant

pub returns : goal.returns
returns c =
    all_written decimal c.args.list.now c.loop-n.n-index c.loop-n.text.items c.loop-n-test.false c.loop-n.invariant
