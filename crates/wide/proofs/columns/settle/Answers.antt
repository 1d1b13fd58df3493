-- From the last place up, the columns are worth the limbs with the carry as one more on top, as `Carrying` has it.
use Rattle.std.proofs.Common.{rules, refl, arith, ◌-◌}
use Rattle.wide.proofs.Bounds.{number_below}
use Rattle.wide.proofs.Carrying.{carried_on, settled}
use Rattle.wide.proofs.columns.settle.Goals as goal

pub loop-i-preserved : goal.loop-i-preserved
loop-i-preserved c =
    carried_on c.args.columns c.loop-i.limbs c.loop-i.i (c.loop-i.i - 1) (search rules) (omega arith) (omega arith)
    c.loop-i.invariant refl (grind arith) c.low.ensures

pub returns-clause-whole : goal.returns-clause-whole
returns-clause-whole c = settled c.args.columns c.loop-i.limbs c.loop-i-test.false c.loop-i.invariant

pub returns-clause-within : goal.returns-clause-within
returns-clause-within c = number_below c.loop-i.limbs c.loop-i.invariant.six
