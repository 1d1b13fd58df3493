-- No line is longer than the room, so all of it is written.
use Rattle.std.proofs.Common.{arith, [], ◌∙◌, length, ap}
use Rattle.text.proofs.Whole.{written, first, whole}
use Rattle.report.proofs.RateLineFits.{line_fits, rate_line_fits}
use Rattle.report.proofs.rate_line.Goals as goal

pub put_rate-requires : goal.put_rate-requires
put_rate-requires c =
    let same = ap length c.new-writer.ensures.as_it_was in
    omega (arith, line_fits c.lowest_rate.result, same, c.new-writer.ensures.nothing)

pub returns : goal.returns
returns c =
    let line = rw c.lowest_rate.ensures.answered at c.put_rate.ensures in
    let all = whole _ _ c.new-writer.ensures.nothing c.new-writer.ensures.as_it_was line in
    let report = first _ _ (c.length.ensures ∙ all.0) all.1 in
    let whole = written _ _ (omega (arith, rate_line_fits c.args.job.now [])) all.0 all.1 in
    record { within = report.0; written = report.1; whole = whole.1 }
