-- A rate's line is made of its answer and its row, and put before the lines of the later rates.
use Rattle.std.proofs.Common.{ap, ◌∙◌, ◌-◌, ◌++◌, length, drop, get_or, rules, arith, w64}
use Rattle.std.proofs.lemmas.Int.{to_z-of_z}
use Rattle.std.proofs.lemmas.List.{drop_all, append-nil}
use Rattle.lines.specs.Lines.{rate_line, lines_text}
use Rattle.lines.proofs.FromTheLast.{none, more, all_written}
use Rattle.lines.proofs.Texts.{none_left, one_more}
use Rattle.lines.proofs.Answered.{counted, line_there}
use Rattle.lines.proofs.run.write_lines.Goals as goal

pub loop-k-init : goal.loop-k-init
loop-k-init c = none (none_left (rate_line c.args.book.now) c.args.rates.now)

pub put_line-at-requires-clause-counted : goal.put_line-at-requires-clause-counted
put_line-at-requires-clause-counted c =
    let called = c.factors_at_rates.ensures in
    counted _ _ _ _ c.requires.answers c.requires.rows called.answers called.rows (c.loop-k.k - 1) (omega arith)
    (to_z-of_z w64 _ (search rules))

pub loop-k-preserved : goal.loop-k-preserved
loop-k-preserved c =
    let called = c.factors_at_rates.ensures in
    let v = get_or c.args.rates.now (c.loop-k.k - 1) 0 in
    more c.loop-k.invariant (rate_line c.args.book.now v) c.loop-k-test.true
    c.put_line-at.ensures.place.0 c.put_line-at.ensures.place.1
    (one_more (rate_line c.args.book.now) c.args.rates.now c.loop-k.k c.loop-k-test.true c.loop-k.auto.k)
    (c.put_line-at.ensures.written
    ∙ ap (λ line. line ++ drop c.loop-k.at c.loop-k.out)
    (line_there _ _ _ _ c.requires.answers c.requires.rows called.answers called.rows (c.loop-k.k - 1) (omega arith)
    (to_z-of_z w64 _ (search rules))))

pub returns-clause-written : goal.returns-clause-written
returns-clause-written c =
    all_written c.loop-k.invariant c.loop-k-test.false
    ∙ ap (λ rest. lines_text c.args.book.now c.args.rates.now ++ rest)
    (drop_all (length c.args.out.now) c.args.out.now (omega arith))
    ∙ append-nil (lines_text c.args.book.now c.args.rates.now)
