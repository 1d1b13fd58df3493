-- At a higher rate no verdict is worse, so whether the verdict is 'below' is a test that goes on holding.
use Rattle.std.proofs.Common.{rules}
use Rattle.verdict.specs.HeldNumbers.{number_in}
use Rattle.ventilation.specs.Private.BelowAt.{below_at}
use Rattle.ventilation.proofs.StaysBelow.{below_rises}
use Rattle.ventilation.proofs.search.failing_rates.Goals as goal

pub returns : goal.returns
returns c =
    let x = c.args in
    let book = x.chain.chain.now.bytes.now in
    let numbers = number_in x.coefficients.now in
    c.first_where.ensures.first (below_at x.by book numbers x.concentration) (λ rate answer less is. search rules)
    (below_rises x.by book numbers x.concentration x.chain.accepted)
