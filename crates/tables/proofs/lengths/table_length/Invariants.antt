-- After i turns the lines of the first i rates are counted.
use Rattle.std.proofs.Common.{◌≡◌, length, take}
use Rattle.text.specs.Words.{each}
use Rattle.tables.specs.Table.{rate_line}
use Rattle.tables.proofs.lengths.table_length.Given as goal

abbrev pub invariant-loop-rate : goal.invariant-loop-rate
invariant-loop-rate l = l.total ≡ length (each (rate_line l.chain.chain.now.bytes.now) 0 (take l.rate-index l.rates))
