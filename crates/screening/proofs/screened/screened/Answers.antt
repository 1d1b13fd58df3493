-- What is worked out from the numbers in use and the members' factors is the definition's.
use Rattle.std.proofs.Common.{arith, ap}
use Rattle.screening.proofs.FactorsAtRate.{ranges, made_at}
use Rattle.screening.proofs.HeldNumbers.{figurable, screened_is}
use Rattle.screening.proofs.screened.screened.Goals as goal

pub figures_of-figures-requires-clause-few : goal.figures_of-figures-requires-clause-few
figures_of-figures-requires-clause-few c =
    let numbers = rw c.read_chain-held.ensures at c.numbers_in_use-numbers.ensures in
    omega (arith, ap (λ n. n.members) numbers, (ranges c.requires).members_count.to)

pub figures_of-figures-requires-clause-figurable : goal.figures_of-figures-requires-clause-figurable
figures_of-figures-requires-clause-figurable c =
    let count = rw c.read_chain-held.ensures at c.members-count.ensures.value in
    let numbers = rw c.read_chain-held.ensures at c.numbers_in_use-numbers.ensures in
    figurable c.requires c.args.second.now numbers
    (made_at c.requires c.requires.rate count (rw c.read_chain-held.ensures at c.factor_list-list.ensures.list))
    (made_at c.requires (omega arith) count (rw c.read_chain-held.ensures at c.factor_list-at_zero.ensures.list))

pub returns : goal.returns
returns c =
    let count = rw c.read_chain-held.ensures at c.members-count.ensures.value in
    let numbers = rw c.read_chain-held.ensures at c.numbers_in_use-numbers.ensures in
    let list = rw c.read_chain-held.ensures at c.factor_list-list.ensures.list in
    screened_is c.requires c.args.second.now numbers
    (made_at c.requires c.requires.rate count list)
    (made_at c.requires (omega arith) count (rw c.read_chain-held.ensures at c.factor_list-at_zero.ensures.list))
    c.figures_of-figures.ensures
    list
    count
