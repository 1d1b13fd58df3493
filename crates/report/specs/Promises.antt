-- What is promised of the texts, with a second set or without one.
use Rattle.std.specs.Prelude.{ℕ, pos, ◌+◌, ◌≤◌, ◌<◌, ◌≡◌, List, length, take, Ok}
use Rattle.book.specs.Rates.{max_rate}
use Rattle.coefficients.specs.Sets.{set_number, longest_set}
use Rattle.screening.specs.Job.{longest_job, book_of}
use Rattle.screening.specs.JobGrounds.{checked_with}
use Rattle.screening.specs.Screening.{answer_with}
use Rattle.screening.specs.SecondSet.{with_set}
use Rattle.screening.specs.declared.job.Answer.{Answer}
use Rattle.verdict.specs.declared.verdict.Verdict.TheVariants.{Below}
use Rattle.ventilation.specs.Lowest.{verdict_on, lowest_number, lowest_with}
use Rattle.ventilation.specs.JobWithRate.{with_rate}
use Rattle.report.specs.Report.{report_with, report_of, report_room}
use Rattle.report.specs.RateLine.{rate_line_with, rate_line, rate_line_room}
use Rattle.report.specs.BySet.{partner_text, partner_room}
use Rattle.report.specs.Reports.{Reports}

pub record ReportPromises : Type 0 where
  -- a report is never empty, and it always fits what a program has for it
  pub some_report : (job second : List ℕ) → 0 < length (report_with job second)
  pub report_fits : (job second : List ℕ) → length (report_with job second) ≤ report_room
  pub line_fits : (job second : List ℕ) → length (rate_line_with job second) ≤ rate_line_room
  pub partner_fits : (job second : List ℕ) → length (partner_text job second) ≤ partner_room
  -- of an input that is too long the first bytes, one more than the longest job has, are answered as all of it
  pub long_report :
      (job second : List ℕ) → longest_job < length job →
      report_with (take (longest_job + 1) job) second ≡ report_with job second
  pub long_line :
      (job second : List ℕ) → longest_job < length job →
      rate_line_with (take (longest_job + 1) job) second ≡ rate_line_with job second
  pub long_partner :
      (job second : List ℕ) → longest_job < length job →
      partner_text (take (longest_job + 1) job) second ≡ partner_text job second
  -- and so are those of a second set
  pub long_set :
      (job second : List ℕ) → longest_set < length second →
      partner_text job (take (longest_set + 1) second) ≡ partner_text job second
  -- the report of an accepted job with another rate written into it has the verdict on it at that rate
  pub at_rate :
      (job second : List ℕ) (w : ℕ) → checked_with job (book_of job) second ≡ Ok tt → w ≤ max_rate →
      Reports (with_rate w job) second (verdict_on job second w)
  -- so where the lowest rate is v, running the job at v prints 'below'
  pub at_answer :
      (job second : List ℕ) (v : ℕ) → lowest_number (lowest_with job second) ≡ pos v → v ≤ max_rate →
      Reports (with_rate v job) second Below
  -- an answer by a second set has the report of the job with the set written over its book's own, and its line
  pub second_set :
      (job second : List ℕ) (answer : Answer) → answer_with job second ≡ Ok answer →
      set_number answer.figures.set ≡ 2 →
      (report_with job second ≡ report_of (with_set second job))
      × (rate_line_with job second ≡ rate_line (with_set second job))
