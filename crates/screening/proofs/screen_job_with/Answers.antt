-- The answer is the definition's, and so keeps demand 3's promise. An admitted job's book is the part after it.
use Rattle.std.proofs.lemmas.Result.{err_from_is_err_and}
use Rattle.screening.proofs.AnswerByChecks.{lent_book, refused_answer, screenable, admitted_answer}
use Rattle.screening.proofs.Answers.{kept}
use Rattle.screening.proofs.screen_job_with.Goals as goal

pub returns-in_err-input-clause-answered : goal.returns-in_err-input-clause-answered
returns-in_err-input-clause-answered c =
    let exit = err_from_is_err_and c.from_residual.result c.from_residual.ensures.1 in
    rw (exit.1, exit.2) (refused_answer c.args.job.now c.args.second.now c.admit.ensures c.in_err-input.was)

pub screened-requires : goal.screened-requires
screened-requires c =
    let job = c.args.job.now in
    rw (lent_book job) (screenable job c.args.second.now c.admit.ensures c.in_ok-input.was)

pub returns : goal.returns
returns c =
    let job = c.args.job.now in
    let second = c.args.second.now in
    let screened = rw (lent_book job) at c.screened.ensures in
    let answered = admitted_answer job second c.admit.ensures c.in_ok-input.was screened in
    record { answered = answered; sound = kept job second answered }
