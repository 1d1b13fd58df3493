-- After i turns the entries of the first i members are counted.
use Rattle.std.proofs.Common.{◌≡◌}
use Rattle.marking.specs.Marks.{mark_in}
use Rattle.marking.specs.Private.Counted.{counted_to}
use Rattle.marking.proofs.table.mark_line.Given as goal

abbrev pub invariant-loop-i : goal.invariant-loop-i
invariant-loop-i l = l.marks ≡ counted_to l.fn.marks (mark_in l.chain.chain.now.bytes.now l.line) l.number l.i
