-- No report is longer than the room, so all of it is written.
use Rattle.std.proofs.Common.{arith, rules, [], length, ◌≡◌, ◌≤◌, ◌∙◌, sym}
use Rattle.text.proofs.Whole.{first, roomy_answer, roomy_bytes}
use Rattle.report.specs.Report.{report_of}
use Rattle.report.proofs.ReportFits.{report_fits}
use Rattle.report.proofs.whole_report.Goals as goal

pub unwrap-requires : goal.unwrap-requires
unwrap-requires c =
    let fits : length (report_of c.args.job.now) ≤ length c.args.out.now =
    omega (arith, report_fits c.args.job.now []) in
    rw (roomy_answer _ _ fits c.report_job.ensures.answered) (search rules)

pub returns : goal.returns
returns c =
    let fits : length (report_of c.args.job.now) ≤ length c.args.out.now =
    omega (arith, report_fits c.args.job.now []) in
    let some = sym c.unwrap.ensures ∙ roomy_answer _ _ fits c.report_job.ensures.answered in
    let size : c.unwrap.result ≡ length (report_of c.args.job.now) = cc in
    let report = first _ _ size (roomy_bytes _ _ fits c.report_job.ensures.written) in
    record { within = report.0; written = report.1; whole = c.report_job.ensures.written }
