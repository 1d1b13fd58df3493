-- The text that `partner` writes: the set in use, the report, and the line of the lowest rate.
use Rattle.std.specs.Prelude.{ℕ, ◌+◌, List, ◌++◌, Result, Ok, Err}
use Rattle.text.specs.Words.{line}
use Rattle.refusals.specs.declared.Refusal.{Refusal}
use Rattle.coefficients.specs.Sets.{set_number}
use Rattle.screening.specs.Screening.{answer_with}
use Rattle.screening.specs.declared.job.Answer.{Answer}
use Rattle.ventilation.specs.Lowest.{lowest_with}
use Rattle.ventilation.specs.declared.LowestRate.{LowestRate}
use Rattle.report.specs.Report.{answer_lines, refused_line, line_room, report_room}
use Rattle.report.specs.RateLine.{line_of, rate_line_room}

-- A job or a set that is refused has one line only, which names no set.
unfoldable pub named_text : Result Answer Refusal → Result LowestRate Refusal → List ℕ
named_text (Ok answer) lowest = line "set " (set_number answer.figures.set) ++ answer_lines answer ++ line_of lowest
named_text (Err refusal) lowest = refused_line refusal

abbrev pub partner_text : List ℕ → List ℕ → List ℕ
partner_text job second = named_text (answer_with job second) (lowest_with job second)

-- No text is longer.
abbrev pub partner_room : ℕ
partner_room = line_room "set " + report_room + rate_line_room
