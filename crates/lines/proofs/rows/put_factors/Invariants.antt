-- The factors of the members from i on stand before the end.
use Rattle.std.proofs.Common.{◌+◌, length}
use Rattle.text.specs.Words.{most_digits}
use Rattle.lines.specs.Lines.{spaced_factor}
use Rattle.lines.proofs.FromTheLast.{FromTheLast}
use Rattle.lines.proofs.Texts.{texts_from}
use Rattle.lines.proofs.rows.put_factors.Given as goal

abbrev pub invariant-loop-i : goal.invariant-loop-i
invariant-loop-i l =
    FromTheLast (texts_from spaced_factor l.factors) (most_digits + 1) (length l.factors) l.end l.fn.out l.i l.at l.out
