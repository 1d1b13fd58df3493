-- After i turns the entries of the first i factors are handed over.
use Rattle.text.proofs.Pieces.{Handed}
use Rattle.tables.specs.Table.{spaced_entry}
use Rattle.tables.proofs.lines.put_entries.Given as goal

abbrev pub invariant-loop-factor : goal.invariant-loop-factor
invariant-loop-factor g l = Handed g.S.Sink.room g.S.Sink.Took spaced_entry l.factors l.fn.sink l.factor-index l.sink
