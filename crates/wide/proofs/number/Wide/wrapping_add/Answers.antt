-- Each column is the sum of two limbs, so the columns are worth the sum, and the settled number is its remainder.
use Rattle.std.proofs.Common.{rules, sym, ◌∙◌}
use Rattle.numbers.proofs.Made.{made_by}
use Rattle.wide.proofs.Bounds.{remainder_is}
use Rattle.wide.proofs.Limbs.{sum_columns}
use Rattle.wide.proofs.number.Wide.wrapping_add.Goals as goal

pub returns : goal.returns
returns c =
    rw (← c.self.view_is, ← c.other.view_is)
    (remainder_is _
    (sym
    (sum_columns c.self.inside.limbs c.other.inside.limbs c.from_fn.result c.self.invariant.six c.other.invariant.six
    c.from_fn.ensures.items.long (made_by _ c.from_fn.ensures.items (λ i y q called. search rules)))
    ∙ c.settle-settled.ensures.whole)
    c.settle-settled.ensures.within)
