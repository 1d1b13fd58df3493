-- The text that `screen` writes.
use Rattle.std.specs.Prelude.{ℕ, ◌+◌, ◌*◌, List, [], ◌++◌, length, take, Option, None, Some, Result, Ok, Err}
use Prim.Native.String.{String}
use Rattle.book.specs.Limits.{max_members}
use Rattle.text.specs.Words.{ascii, most_digits, decimal, line_feed, line, each}
use Rattle.refusals.specs.Grounds.{refusal_number}
use Rattle.refusals.specs.declared.Refusal.{Refusal}
use Rattle.screening.specs.Screening.{answer_with}
use Rattle.screening.specs.declared.job.Answer.{Answer}
use Rattle.screening.specs.declared.job.Figures.{Figures}
use Rattle.verdict.specs.declared.verdict.Verdict.{Verdict}
use Rattle.verdict.specs.declared.verdict.Verdict.TheVariants.{Below, Close, Above}
use Rattle.verdict.specs.declared.working.WorkingLevels.{WorkingLevels}

-- A member's number and its factor in grains.
abbrev pub factor_line : ℕ → ℕ → List ℕ
factor_line member factor = ascii "factor " ++ decimal member ++ line " " factor

-- One line a member, counted from 0.
abbrev pub factor_lines : List ℕ → List ℕ
factor_lines factors = each factor_line 0 factors

abbrev pub verdict_word : Verdict → String
verdict_word Below = "below"
verdict_word Close = "close"
verdict_word Above = "above"

unfoldable pub verdict_line : Verdict → List ℕ
verdict_line verdict = ascii "verdict " ++ ascii (verdict_word verdict) ++ line_feed

-- Fm, then micro working levels.
abbrev pub working_lines : Option WorkingLevels → List ℕ
working_lines None = ascii "equilibrium none" ++ line_feed ++ ascii "working none" ++ line_feed
working_lines (Some levels) = line "equilibrium " levels.equilibrium ++ line "working " levels.micro

abbrev pub figure_lines : Figures → List ℕ
figure_lines figures =
    line "concentration " figures.concentration
    ++ verdict_line figures.verdict
    ++ line "level " figures.level
    ++ working_lines figures.working

abbrev pub refused_line : Refusal → List ℕ
refused_line refusal = line "refused " (refusal_number refusal)

-- One factor line a member, then the figures. A refused job has one line only.
abbrev pub answer_lines : Answer → List ℕ
answer_lines answer = factor_lines (take answer.count answer.factors) ++ figure_lines answer.figures

unfoldable pub text_of : Result Answer Refusal → List ℕ
text_of (Ok answer) = answer_lines answer
text_of (Err refusal) = refused_line refusal

-- The report of a job with what is lent beside it. `screen` lends nothing.
abbrev pub report_with : List ℕ → List ℕ → List ℕ
report_with job second = text_of (answer_with job second)

abbrev pub report_of : List ℕ → List ℕ
report_of job = report_with job []

-- How long a line with a number can be, and with it a factor's line, the figures and a report: no report is longer.
abbrev pub line_room : String → ℕ
line_room word = length (ascii word) + most_digits + length line_feed

abbrev pub factor_line_room : ℕ
factor_line_room = length (ascii "factor ") + most_digits + line_room " "

abbrev pub working_room : ℕ
working_room = line_room "equilibrium " + line_room "working "

abbrev pub figures_room : ℕ
figures_room =
    line_room "concentration " + (length (ascii "verdict below") + length line_feed) + line_room "level " + working_room

abbrev pub report_room : ℕ
report_room = max_members * factor_line_room + figures_room
