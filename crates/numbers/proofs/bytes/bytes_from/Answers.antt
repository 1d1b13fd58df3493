use Rattle.std.proofs.Common.{rules}
use Rattle.numbers.proofs.Made.{made_by}
use Rattle.numbers.proofs.bytes.bytes_from.Goals as goal

pub returns-then-at-bytes-clause-each : goal.returns-then-at-bytes-clause-each
returns-then-at-bytes-clause-each g c = made_by _ c.from_fn.ensures.items (λ i y q k. search rules)

pub returns-clause-each : goal.returns-clause-each
returns-clause-each g c = made_by _ c.from_fn-2.ensures.items (λ i y q k. search rules)
