-- Everything that is promised of the texts. A job that is judged is reported with its verdict, since its report is made
-- of the figures that it is answered with.
use Rattle.std.proofs.Common.{◌≡◌, ℕ, List, ◌++◌, take, ap, ◌∙◌, append_assoc}
use Rattle.text.specs.Words.{line}
use Rattle.verdict.specs.declared.verdict.Verdict.{Verdict}
use Rattle.ventilation.specs.JobWithRate.{Judged}
use Rattle.ventilation.proofs.Promised.{ventilation_promises}
use Rattle.report.specs.Report.{factor_lines, verdict_line, working_lines, text_of}
use Rattle.report.specs.Reports.{Reports}
use Rattle.report.specs.Promises.{ReportPromises}
use Rattle.report.proofs.ReportFits.{report_fits, report_some}
use Rattle.report.proofs.RateLineFits.{rate_line_fits}
use Rattle.report.proofs.LongInput.{long_report, long_line, long_partner, long_set}
use Rattle.report.proofs.PartnerFits.{partner_fits}
use Rattle.report.proofs.SecondSet.{second_report, second_line}

regroup : (a b c d e : List ℕ) → a ++ (b ++ c ++ d ++ e) ≡ a ++ b ++ c ++ d ++ e
regroup a b c d e = simp append_assoc

reports : (job second : List ℕ) (verdict : Verdict) → Judged job second verdict → Reports job second verdict
unfolding text_of
reports job second verdict judged =
    let answer = judged.answer in
    let factors = take answer.count answer.factors in
    let first = line "concentration " answer.figures.concentration in
    let level = line "level " answer.figures.level in
    let working = working_lines answer.figures.working in
    record {
      answered = judged;
      text =
          ap text_of judged.accepted
          ∙ ap (λ v. factor_lines factors ++ (first ++ verdict_line v ++ level ++ working)) judged.given
          ∙ regroup (factor_lines factors) first (verdict_line verdict) level working;
    }

pub report_promises : ReportPromises
report_promises =
    record {
      some_report = report_some;
      report_fits = report_fits;
      line_fits = rate_line_fits;
      partner_fits = partner_fits;
      long_report = long_report;
      long_line = long_line;
      long_partner = long_partner;
      long_set = long_set;
      at_rate = λ job second w passed within. reports _ _ _ (ventilation_promises.at_rate job second w passed within);
      at_answer = λ job second v is within. reports _ _ _ (ventilation_promises.at_answer job second v is within);
      second_set = λ job second answer answered two.
          (second_report job second answer answered two, second_line job second answer answered two);
    }
