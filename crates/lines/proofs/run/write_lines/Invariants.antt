-- The lines of the rates from k on stand at the end.
use Rattle.std.proofs.Common.{length}
use Rattle.lines.specs.Lines.{rate_line, line_room}
use Rattle.lines.proofs.FromTheLast.{FromTheLast}
use Rattle.lines.proofs.Texts.{texts_from}
use Rattle.lines.proofs.run.write_lines.Given as goal

abbrev pub invariant-loop-k : goal.invariant-loop-k
invariant-loop-k l =
    FromTheLast (texts_from (rate_line l.book) l.rates) line_room (length l.rates) (length l.fn.out) l.fn.out l.k l.at
    l.out
