-- Four rates that are accepted are run side by side, and otherwise one is.
use Rattle.std.proofs.Common.{rules, arith, ◌∙◌, w64, sym}
use Rattle.std.proofs.lemmas.Int.{to_z-of_z}
use Rattle.portfolios.proofs.Steps.{one_run, four_run}
use Rattle.portfolios.proofs.next.run_next.Goals as goal

pub returns-in-Some : goal.returns-in-Some
returns-in-Some c =
    let v = c.in-Some.v in
    four_run _ _ (sym c.requires.checked ∙ c.in-Ok.is) (omega (arith, c.members.ensures.value)) v.a.within v.b.within
    v.c.within v.d.within c.in-Some.ensures (omega arith) c.run_four.ensures.answers c.run_four.ensures.rows

pub returns : goal.returns
returns c =
    one_run _ _ c.args.rates.now c.args.answers.now c.args.rows.now c.requires.some c.requires.lent
    (to_z-of_z w64 _ (search rules) ∙ c.run_one.ensures.answer) c.run_one.ensures.rows
