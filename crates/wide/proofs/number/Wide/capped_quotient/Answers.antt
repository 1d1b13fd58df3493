-- Whether the next multiple passes is a test that goes on holding, and the first number at which it holds is the
-- largest whose own multiple does not.
use Rattle.std.proofs.Common.{le_refl, rules}
use Rattle.wide.proofs.Halving.{passes_after, passes_rises, largest_found}
use Rattle.wide.proofs.number.Wide.capped_quotient.Goals as goal

pub returns : goal.returns
returns c =
    let x = c.args in
    largest_found x.self x.b
    (c.first_where.ensures.first (passes_after x.self x.b) (λ q answer less is. search rules)
    (passes_rises x.self x.b x.cap))
    (le_refl _)
