-- The first line ends at the first line feed, or is all there is.
use Rattle.std.proofs.Common.{arith}
use Rattle.marking.proofs.LineLaws.{first_line, all_one_line}
use Rattle.marking.proofs.split.first_length.Goals as goal

pub returns-then-text-at-eq10-clause-first : goal.returns-then-text-at-eq10-clause-first
returns-then-text-at-eq10-clause-first c =
    first_line c.args.text.now c.loop-at.at c.if-text-at-eq10.true c.loop-at-test.true c.loop-at.invariant

pub returns-clause-first : goal.returns-clause-first
returns-clause-first c =
    all_one_line c.args.text.now c.requires (λ j l. c.loop-at.invariant j (omega (arith, l, c.loop-at-test.false)))
