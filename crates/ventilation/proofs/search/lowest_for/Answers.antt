-- The rates that fail with the rows' numbers fail with those in use, and the one after them is the first that does not.
use Rattle.std.proofs.Common.{arith, ap}
use Rattle.ventilation.proofs.First.{found_rate, found_none}
use Rattle.ventilation.proofs.StaysBelow.{by_book}
use Rattle.ventilation.proofs.search.lowest_for.Goals as goal

pub returns-then-failing-le-MAX_RATE : goal.returns-then-failing-le-MAX_RATE
returns-then-failing-le-MAX_RATE c =
    let numbers = rw c.read_chain-held.ensures at c.numbers_in_use-numbers.ensures in
    let failing = rw c.read_chain-held.ensures at c.failing_rates-failing.ensures in
    found_rate (by_book c.args.second.now c.requires (ap (λ n. n.rows) numbers) failing) (omega arith)

pub returns-else-failing-le-MAX_RATE : goal.returns-else-failing-le-MAX_RATE
returns-else-failing-le-MAX_RATE c =
    let numbers = rw c.read_chain-held.ensures at c.numbers_in_use-numbers.ensures in
    let failing = rw c.read_chain-held.ensures at c.failing_rates-failing.ensures in
    found_none (by_book c.args.second.now c.requires (ap (λ n. n.rows) numbers) failing) (omega arith)
