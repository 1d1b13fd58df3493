-- What is printed of a factor that is not zero is the entry by its four digits and its exponent.
use Rattle.std.proofs.Common.{arith, ◌∙◌}
use Rattle.entry.proofs.Cases.{of_parts}
use Rattle.entry.proofs.Promised.{kept}
use Rattle.entry.proofs.entry_of.Goals as goal

pub returns-clause-answered : goal.returns-clause-answered
returns-clause-answered c =
    let share = c.share_of.ensures in
    c.printed.ensures ∙ of_parts (omega arith) c.min.ensures share.exponent share.digits

pub returns-clause-sound : goal.returns-clause-sound
returns-clause-sound c = kept c.args.factor (returns-clause-answered c)
