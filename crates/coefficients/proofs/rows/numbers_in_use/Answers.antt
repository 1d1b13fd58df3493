-- An accepted book has at most as many members as there are rows.
use Rattle.std.proofs.Common.{arith}
use Rattle.book.proofs.Ranges.{few_members}
use Rattle.coefficients.proofs.rows.numbers_in_use.Goals as goal

pub fill_first-requires-clause-capacity : goal.fill_first-requires-clause-capacity
fill_first-requires-clause-capacity c =
    let few = few_members c.args.chain.chain.now.bytes.now c.args.chain.accepted in
    omega (arith, few, c.members-members.ensures.value)
