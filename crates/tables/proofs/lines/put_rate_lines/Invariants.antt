-- After i turns the lines of the first i rates are handed over.
use Rattle.text.proofs.Pieces.{Handed}
use Rattle.tables.specs.Table.{rate_line}
use Rattle.tables.proofs.lines.put_rate_lines.Given as goal

abbrev pub invariant-loop-rate : goal.invariant-loop-rate
invariant-loop-rate g l =
    Handed g.S.Sink.room g.S.Sink.Took (rate_line l.chain.chain.now.bytes.now) l.rates l.fn.sink l.rate-index l.sink
