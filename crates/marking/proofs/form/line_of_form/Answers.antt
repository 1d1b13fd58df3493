-- A line with too many places for its rate is not of the form.
use Rattle.std.proofs.Common.{arith, sym}
use Rattle.marking.proofs.LineForm.{many_places}
use Rattle.marking.proofs.form.line_of_form.Goals as goal

pub returns-then-rate_places-gt-RATE_DIGITS : goal.returns-then-rate_places-gt-RATE_DIGITS
returns-then-rate_places-gt-RATE_DIGITS c =
    sym
    (many_places c.args.members c.args.line.now
    (omega (arith, c.rate_places.ensures, c.if-rate_places-gt-RATE_DIGITS.true)))
