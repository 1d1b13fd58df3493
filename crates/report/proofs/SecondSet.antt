-- The report by a second set is the same bytes as that of the job with the set written over its book's own: no line of
-- it names the set. So is the line of the lowest rate.
use Rattle.std.specs.Prelude.{Ok}
use Prim.Native.Nat.{ℕ}
use mathlib.Core.Path.{◌≡◌, ap, sym, ◌∙◌}
use mathlib.Core.List.{List}
use Rattle.coefficients.specs.Sets.{set_in_use, set_number}
use Rattle.screening.specs.Screening.{answer_with}
use Rattle.screening.specs.SecondSet.{with_set}
use Rattle.screening.specs.declared.job.Answer.{Answer}
use Rattle.screening.proofs.Answers.{passed, set_is}
use Rattle.screening.proofs.Promised.{promises}
use Rattle.ventilation.specs.Lowest.{lowest_rate, lowest_for, lowest_with}
use Rattle.ventilation.specs.declared.LowestRate.{LowestRate}
use Rattle.ventilation.proofs.Promised.{ventilation_promises}
use Rattle.report.specs.Report.{text_of, report_with, report_of}
use Rattle.report.specs.RateLine.{line_of, rate_line_with, rate_line}

module _ (job second : List ℕ) (answer : Answer) (answered : answer_with job second ≡ Ok answer)
    (two : set_number answer.figures.set ≡ 2) where
  pub second_report : report_with job second ≡ report_of (with_set second job)
  unfolding text_of
  second_report = ap text_of answered ∙ ap text_of (sym (promises.second_set.second job second answer answered two))

  abbrev lowest : LowestRate
  lowest = record { rate = lowest_rate job second; set = set_in_use second }

  lowest_is : lowest_with job second ≡ Ok lowest
  lowest_is = ap (λ found. lowest_for found job second) (passed job second answer answered)

  pub second_line : rate_line_with job second ≡ rate_line (with_set second job)
  unfolding line_of
  second_line =
      ap line_of lowest_is
      ∙ ap line_of (sym (ventilation_promises.second_set job second lowest lowest_is
      (sym (ap set_number (set_is job second answer answered)) ∙ two)))
