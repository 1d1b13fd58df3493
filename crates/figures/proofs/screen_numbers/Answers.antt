-- The answer has figures and at most sixteen factors, and the numbers are those of its figures. A list that is too
-- short is refused with all that is lent as it was.
use Rattle.std.proofs.Common.{refl, ◌≡◌, length, sym, ◌∙◌}
use Rattle.std.specs.Prelude.{Err}
use Rattle.std.proofs.lemmas.Result.{err_from_is_err_and}
use Rattle.screening.proofs.Answers.{few, answer_promise, levels}
use Rattle.screening.specs.Screening.{answer_with}
use Rattle.figures.specs.Numbers.{lent}
use Rattle.figures.proofs.TooShort.{too_short}
use Rattle.figures.proofs.screen_numbers.Goals as goal

refused : (c : goal.After-from_residual-in_err-refuse_if) →
    lent (answer_with c.args.job.now c.args.second.now) (length c.args.factors.now) ≡ Err c.in_err-refuse_if.field-0.0
refused c =
    too_short (length c.args.factors.now)
    (sym c.screen_job_with.ensures.answered ∙ c.in_ok-answer.was)
    (sym c.refuse_if.ensures ∙ c.in_err-refuse_if.was)

pub returns-in_err-refuse_if-clause-answered : goal.returns-in_err-refuse_if-clause-answered
returns-in_err-refuse_if-clause-answered c =
    let exit = err_from_is_err_and c.from_residual-in_err-refuse_if.result c.from_residual-in_err-refuse_if.ensures.1 in
    rw (exit.1, exit.2, refused c) refl

pub returns-in_err-refuse_if-clause-set : goal.returns-in_err-refuse_if-clause-set
returns-in_err-refuse_if-clause-set c = rw (refused c) refl

pub returns-in_err-refuse_if-clause-figures : goal.returns-in_err-refuse_if-clause-figures
returns-in_err-refuse_if-clause-figures c = rw (refused c) refl

pub returns-in_err-refuse_if-clause-factors : goal.returns-in_err-refuse_if-clause-factors
returns-in_err-refuse_if-clause-factors c = rw (refused c) refl

pub shared_ref_as_front-copy_from_slice : goal.shared_ref_as_front-copy_from_slice
shared_ref_as_front-copy_from_slice c =
    few c.args.job.now c.args.second.now c.in_ok-answer.answer
    (sym c.screen_job_with.ensures.answered ∙ c.in_ok-answer.was)

pub returns-clause-few : goal.returns-clause-few
returns-clause-few c =
    few c.args.job.now c.args.second.now c.in_ok-answer.answer
    (sym c.screen_job_with.ensures.answered ∙ c.in_ok-answer.was)

pub returns-clause-sound : goal.returns-clause-sound
returns-clause-sound c n e =
    let job = c.args.job.now in
    let second = c.args.second.now in
    let answer = c.in_ok-answer.answer in
    let answered = sym c.screen_job_with.ensures.answered ∙ c.in_ok-answer.was in
    rw c.numbers_of.ensures
    (record {
      given = answer.figures.verdict;
      verdict = refl;
      told = answer_promise job second answer answered;
      levels = answer.figures.working;
      equilibrium = refl;
      working = refl;
      levels_told = levels job second answer answered;
    })
