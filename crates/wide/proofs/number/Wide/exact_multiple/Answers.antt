-- Each column is a limb times k, so the columns are worth k times the number, and `settle` keeps that.
use Rattle.std.proofs.Common.{rules, sym, ◌∙◌}
use Rattle.numbers.proofs.Made.{made_by}
use Rattle.wide.proofs.Limbs.{multiple_columns}
use Rattle.wide.proofs.number.Wide.exact_multiple.Goals as goal

pub returns-clause-whole : goal.returns-clause-whole
returns-clause-whole c =
    rw (← c.self.view_is)
    (sym
    (multiple_columns c.self.inside.limbs c.from_fn.result c.args.k c.self.invariant.six c.from_fn.ensures.items.long
    (made_by _ c.from_fn.ensures.items (λ i y q called. search rules)))
    ∙ c.settle.ensures.whole)
