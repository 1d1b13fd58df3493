-- No report is longer than `report_room`, since an accepted book has at most 16 members. Every report has a line, so a
-- length of 0 says only that there was no room.
use Prim.Native.Nat.{ℕ, ◌≤◌, ◌<◌}
use mathlib.Core.List.{List}
use lib.ListN.{length}
use Rattle.screening.specs.Screening.{answer_with}
use Rattle.screening.proofs.Answers.{few}
use Rattle.report.specs.Report.{report_with, report_room}
use Rattle.report.proofs.ReportLengths.{lines_at_most, lines_some}

pub report_fits : (job second : List ℕ) → length (report_with job second) ≤ report_room
report_fits job second = lines_at_most (answer_with job second) (few job second)

pub report_some : (job second : List ℕ) → 0 < length (report_with job second)
report_some job second = lines_some (answer_with job second)
