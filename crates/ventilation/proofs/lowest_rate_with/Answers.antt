-- A refusal is the checks'. The book of a job that is admitted is the part after it,
-- and its room is searched for the rate.
use Rattle.std.proofs.Common.{ap, sym}
use Rattle.std.proofs.lemmas.Result.{err_from_is_err_and}
use Rattle.screening.proofs.AnswerByChecks.{lent_book, refused, passed, input_is, screenable}
use Rattle.ventilation.specs.Lowest.{lowest_for}
use Rattle.ventilation.proofs.Promised.{kept}
use Rattle.ventilation.proofs.Searched.{searched_is}
use Rattle.ventilation.proofs.lowest_rate_with.Goals as goal

pub returns-in_err-input-clause-answered : goal.returns-in_err-input-clause-answered
returns-in_err-input-clause-answered c =
    let job = c.args.job.now in
    let second = c.args.second.now in
    let exit = err_from_is_err_and c.from_residual.result c.from_residual.ensures.1 in
    rw (exit.1, exit.2)
    (ap (λ found. lowest_for found job second) (sym (refused job second c.admit.ensures c.in_err-input.was)))

pub lowest_for-requires : goal.lowest_for-requires
lowest_for-requires c =
    let job = c.args.job.now in
    rw (lent_book job) (screenable job c.args.second.now c.admit.ensures c.in_ok-input.was)

pub returns : goal.returns
returns c =
    let job = c.args.job.now in
    let second = c.args.second.now in
    let left = c.admit.ensures in
    let is = c.in_ok-input.was in
    let found = rw (lent_book job) at c.lowest_for.ensures in
    let answered =
    searched_is job second (passed job second left is) (input_is job second left is) found c.set_in_use.ensures in
    record { answered = answered; sound = kept job second answered }
