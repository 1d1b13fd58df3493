-- The line that `fan` writes.
use Rattle.std.specs.Prelude.{ℕ, List, [], ◌++◌, Option, Some, None, Result, Ok, Err}
use Rattle.text.specs.Words.{ascii, line_feed, line}
use Rattle.report.specs.Report.{refused_line, line_room}
use Rattle.ventilation.specs.Lowest.{lowest_with}
use Rattle.ventilation.specs.declared.LowestRate.{LowestRate}
use Rattle.refusals.specs.declared.Refusal.{Refusal}

-- `rate` with the number, or `rate none`; a refusal as in `screen`.
abbrev pub found_line : Option ℕ → List ℕ
found_line (Some v) = line "rate " v
found_line None = ascii "rate none" ++ line_feed

unfoldable pub line_of : Result LowestRate Refusal → List ℕ
line_of (Ok lowest) = found_line lowest.rate
line_of (Err refusal) = refused_line refusal

-- The line of a job with what is lent beside it. `fan` lends nothing.
abbrev pub rate_line_with : List ℕ → List ℕ → List ℕ
rate_line_with job second = line_of (lowest_with job second)

abbrev pub rate_line : List ℕ → List ℕ
rate_line job = rate_line_with job []

-- No line is longer.
abbrev pub rate_line_room : ℕ
rate_line_room = line_room "refused "
