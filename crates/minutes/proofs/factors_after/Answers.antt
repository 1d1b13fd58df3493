-- Where the checks pass, the periods are passed in the list, and its factors are theirs.
use Rattle.std.proofs.Common.{sym, refl, length}
use Rattle.book.specs.Fields.{members}
use Rattle.balance.proofs.Call.CallAnswers.{filled_answer, filled_list}
use Rattle.minutes.specs.Periods.{factors_after}
use Rattle.minutes.proofs.Checking.{periods_pass, factors_after_length}
use Rattle.minutes.proofs.Promised.{kept}
use Rattle.minutes.proofs.factors_after.Goals as goal

pub pass_periods-members-requires-clause-rates_within : goal.pass_periods-members-requires-clause-rates_within
pass_periods-members-requires-clause-rates_within c =
    (periods_pass c.args.periods.now c.args.book.now (length c.args.out.now) (sym c.in_ok-check_periods.ensures)).0

pub returns : goal.returns
returns c =
    let periods = c.args.periods.now in
    let book = c.args.book.now in
    let list = c.args.out.now in
    let factors = factors_after periods book in
    let passed = sym c.in_ok-check_periods.ensures in
    let size = factors_after_length periods book (periods_pass periods book (length list) passed).1 in
    let answered = filled_answer (sym passed) (members book) factors list refl c.pass_periods-members.ensures.counted in
    let written =
    filled_list (sym passed) (members book) factors list refl size c.pass_periods-members.ensures.passed in
    record { answered = answered; written = written; sound = kept periods book list answered written }
