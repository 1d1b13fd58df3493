-- A space and a factor are put before those of the later members.
use Rattle.std.proofs.Common.{ap, ◌∙◌, ◌-◌, ◌∷◌, get_or, arith}
use Rattle.text.proofs.Digits.{decimal_at_most}
use Rattle.lines.specs.Lines.{spaced_factor}
use Rattle.lines.proofs.FromTheLast.{none, more, all_written}
use Rattle.lines.proofs.Texts.{none_left, one_more}
use Rattle.lines.proofs.rows.put_factors.Goals as goal

pub loop-i-init : goal.loop-i-init
loop-i-init c = none (none_left spaced_factor c.args.factors.now)

pub put_word-at-requires-clause-room : goal.put_word-at-requires-clause-room
put_word-at-requires-clause-room c = omega (arith, decimal_at_most)

pub loop-i-preserved : goal.loop-i-preserved
loop-i-preserved c =
    let factor = get_or c.args.factors.now (c.loop-i.i - 1) 0 in
    let digits = decimal_at_most factor in
    more c.loop-i.invariant (spaced_factor factor) c.loop-i-test.true (omega arith) (omega arith)
    (one_more spaced_factor c.args.factors.now c.loop-i.i c.loop-i-test.true c.loop-i.auto.i)
    (c.put_word-at.ensures.written ∙ ap (λ rest. 32 ∷ rest) c.put_number-at.ensures.written)

pub returns-clause-written : goal.returns-clause-written
returns-clause-written c = all_written c.loop-i.invariant c.loop-i-test.false
