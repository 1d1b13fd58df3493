-- A job whose own fields refuse it is refused whatever book follows, and the book of any other is the part after it.
use Rattle.std.proofs.Common.{ap, ◌∙◌}
use Rattle.std.proofs.lemmas.Result.{err_from_is_err_and}
use Rattle.screening.specs.Admission.{admission_with}
use Rattle.screening.proofs.AnswerByChecks.{lent_book, refused_by_fields_is}
use Rattle.screening.proofs.admission.admit.Goals as goal

pub returns-in_err-check_fields : goal.returns-in_err-check_fields
returns-in_err-check_fields c =
    let exit = err_from_is_err_and c.from_residual.result c.from_residual.ensures.1 in
    rw (exit.1, exit.2)
    (refused_by_fields_is c.args.job.now c.args.second.now c.check_fields.ensures c.in_err-check_fields.was)

pub returns : goal.returns
returns c =
    c.admit_with.ensures
    ∙ ap (λ book. admission_with c.args.job.now book c.args.second.now) (lent_book c.args.job.now)
