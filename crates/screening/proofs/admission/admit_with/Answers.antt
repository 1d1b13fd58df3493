-- A book that is refused is refused before the second set is looked at.
use Rattle.std.proofs.Common.{sym, ◌∙◌}
use Rattle.std.proofs.lemmas.Result.{err_from_is_err_and}
use Rattle.screening.proofs.AnswerByChecks.{refused_by_book_is}
use Rattle.screening.proofs.admission.admit_with.Goals as goal

pub returns-in_err-check_book : goal.returns-in_err-check_book
returns-in_err-check_book c =
    let x = c.args in
    let residual = c.from_residual-in_err-check_book in
    let exit = err_from_is_err_and residual.result residual.ensures.1 in
    rw (exit.1, exit.2)
    (refused_by_book_is x.job.now x.book.now x.second.now c.requires
    (sym c.intake_of.ensures ∙ c.in_ok-concentration.was)
    c.check_book.ensures c.in_err-check_book.was)
