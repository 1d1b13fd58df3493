-- What is collected is the numbers, one after the other.
use Rattle.std.proofs.Common.{rules, ◌+◌, ◌*◌, arith}
use Rattle.std.proofs.lemmas.Iterator.{items_from_collect, YieldsList-from_map, YieldsList-from_range}
use Rattle.numbers.specs.Bytes.{u32_at}
use Rattle.case_texts.proofs.Turns.{numbers_mapped}
use Rattle.case_texts.proofs.parts.numbers.Goals as goal

pub returns : goal.returns
returns c =
    let items =
    items_from_collect c.collect.result c.collect.ensures.ran
    (YieldsList-from_map _ (λ i. u32_at c.args.body.now (c.args.offset + 4 * i))
    (YieldsList-from_range 0 c.from.result c.from.result c.map.ensures.source (omega arith)) c.map.ensures.closure
    (λ x r q k. search rules)) in
    rw (numbers_mapped c.args.body.now c.args.offset c.from.result, c.from.ensures) at items
