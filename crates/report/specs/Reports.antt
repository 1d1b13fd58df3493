-- What it is for a job's report to have a verdict.
use Rattle.std.specs.Prelude.{ℕ, ◌≡◌, List, ◌++◌, take}
use Rattle.text.specs.Words.{line}
use Rattle.verdict.specs.declared.verdict.Verdict.{Verdict}
use Rattle.ventilation.specs.JobWithRate.{Judged}
use Rattle.report.specs.Report.{factor_lines, verdict_line, working_lines, report_with}

-- It stands in its line, after those of the factors and the concentration.
pub record Reports (job second : List ℕ) (verdict : Verdict) : Type 0 where
  pub answered : Judged job second verdict
  pub text :
      report_with job second
      ≡ factor_lines (take answered.answer.count answered.answer.factors)
      ++ line "concentration " answered.answer.figures.concentration
      ++ verdict_line verdict
      ++ line "level " answered.answer.figures.level
      ++ working_lines answered.answer.figures.working
