-- It joins the conversions of the two parts, by the law of the joined parts; an error of their sum is its own.
use mathlib.Core.Path.{ap, ◌∙◌}
use Rattle.std.proofs.lemmas.Result.{err_from_is_err_and}
use Rattle.reading.specs.Reading.{whole_answer}
use Rattle.reading.specs.Private.Conversion.{capped}
use Rattle.reading.proofs.PartsJoined.{taken}
use Rattle.reading.proofs.concentration.intake_in.Goals as goal

pub returns : goal.returns
returns c =
    let value = c.whole-value.ensures.answered ∙ ap whole_answer c.amount.ensures in
    let uncertainty = c.whole-uncertainty.ensures.answered ∙ ap whole_answer c.amount-2.ensures in
    c.within_limit.ensures
    ∙ ap capped c.through_medium.ensures
    ∙ rw c.in_ok-total.was at (taken c.args.unit c.args.medium c.args.af c.args.reading value uncertainty c.sum.ensures)

pub returns-in_err-total : goal.returns-in_err-total
returns-in_err-total c =
    let value = c.whole-value.ensures.answered ∙ ap whole_answer c.amount.ensures in
    let uncertainty = c.whole-uncertainty.ensures.answered ∙ ap whole_answer c.amount-2.ensures in
    let p = err_from_is_err_and c.from_residual.result c.from_residual.ensures.1 in
    rw (p.1, p.2) (rw c.in_err-total.was at (taken c.args.unit c.args.medium c.args.af c.args.reading value uncertainty
    c.sum.ensures))
