-- The factors that the sums are made of are the book's at the rate, and there is a row for each.
use Rattle.std.proofs.Common.{arith, ◌∙◌, length, ◌≤◌}
use lib.Seq.{length-take-le}
use Rattle.screening.proofs.FactorsAtRate.{within, ranges, made_at, summable, verdict_at_rate}
use Rattle.verdict.proofs.Judging.{verdict_is}
use Rattle.screening.proofs.screened.verdict_at.Goals as goal

pub sums_of-sums-requires : goal.sums_of-sums-requires
sums_of-sums-requires c =
    let asked = within c.requires c.args.v.within c.args.chain.accepted in
    let count = c.members-members.ensures.value in
    let fit : c.members-members.result ≤ length c.args.coefficients.now =
    omega (arith, count, c.told-coefficients, (ranges asked).members_count.to)
    in
    summable asked (made_at asked asked.rate count c.factor_list-factors.ensures.list)
    (length-take-le c.members-members.result c.args.coefficients.now fit ∙ count)

pub returns : goal.returns
returns c =
    let asked = within c.requires c.args.v.within c.args.chain.accepted in
    let count = c.members-members.ensures.value in
    verdict_at_rate asked (made_at asked asked.rate count c.factor_list-factors.ensures.list) _ count
    (verdict_is c.sums_of-sums.ensures c.args.concentration c.verdict_by.ensures)
