-- No text is longer than the room, so all of it is written.
use Rattle.std.proofs.Common.{arith, ◌∙◌, length, ap}
use Rattle.text.proofs.Whole.{written, first, whole}
use Rattle.report.proofs.PartnerFits.{partner_fits}
use Rattle.report.proofs.by_set.partner_text.Goals as goal

pub put_named-requires : goal.put_named-requires
put_named-requires c =
    let same = ap length c.new-writer.ensures.as_it_was in
    let fits = partner_fits c.args.job.now c.args.second.now in
    rw (c.screen_job_with.ensures.answered, c.lowest_rate_with.ensures.answered)
    (omega (arith, fits, same, c.new-writer.ensures.nothing))

pub returns : goal.returns
returns c =
    let text = rw (c.screen_job_with.ensures.answered, c.lowest_rate_with.ensures.answered) at c.put_named.ensures in
    let all = whole _ _ c.new-writer.ensures.nothing c.new-writer.ensures.as_it_was text in
    let report = first _ _ (c.length.ensures ∙ all.0) all.1 in
    let whole = written _ _ (omega (arith, partner_fits c.args.job.now c.args.second.now)) all.0 all.1 in
    record { within = report.0; written = report.1; whole = whole.1 }
