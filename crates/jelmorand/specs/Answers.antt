-- The number that a caller in another language gets: that of the call's own answer, the answer itself where it is not
-- negative, and minus the number of the refusal otherwise.
use Rattle.refusals.specs.Grounds.{answer_number, refused_number}
use Rattle.std.specs.Prelude.{ℕ, ◌+◌, ◌*◌, ◌≡◌, List, [], ◌∷◌, length, ℤ, pos, Result, Ok, Err, Option, Some, None}
use Rattle.std.specs.Option.{ok_or}
use Rattle.refusals.specs.declared.Refusal.{Refusal}
use Rattle.refusals.specs.declared.Refusal.TheVariants.{BufferTooShort}
use Rattle.coefficients.specs.Sets.{set_number}
use Rattle.screening.specs.Screening.{answer_with}
use Rattle.figures.specs.Numbers.{lent, count_answered}
use Rattle.figures.specs.Promises.{NumbersTold}
use Rattle.figures.specs.declared.FigureNumbers.{FigureNumbers}
use Rattle.balance.specs.Factors.{factor_answer}
use Rattle.minutes.specs.Periods.{periods_answer}
use Rattle.portfolios.specs.Run.{rates_run}
use Rattle.text.specs.Answered.{length_written}
use Rattle.report.specs.Report.{report_of}
use Rattle.ventilation.specs.Lowest.{lowest_with, lowest_number}
use Rattle.ventilation.specs.declared.LowestRate.{LowestRate}
use Rattle.tables.specs.Answers.{table_answer}
use Rattle.marking.specs.Answers.{marks_answer}
use Rattle.marking.specs.declared.tally.Marks.{Marks}
use Rattle.marking.specs.declared.tally.Place.{Place}

-- What the factor call answers for a rate, a book and a list of so many places.
abbrev pub factors_number : ℕ → List ℕ → ℕ → ℤ
factors_number v book capacity = answer_number (factor_answer v book capacity)

-- What the report call answers for a job and so many places: the length of the report, which is one line where the job
-- is refused. It is refused with 21 where the report is longer than the buffer.
abbrev pub report_number : List ℕ → ℕ → ℤ
report_number job capacity = answer_number (ok_or (length_written (report_of job) capacity) BufferTooShort)

-- What the calls for figures answer for a job, what is lent beside it and so many places for factors; the call without
-- a second set lends no bytes.
abbrev pub screen_number : List ℕ → List ℕ → ℕ → ℤ
screen_number job second places = answer_number (count_answered (lent (answer_with job second) places))

-- What the call's number says of the figures: where it is a count, their numbers keep their promise.
abbrev pub ScreenPromise : List ℕ → List ℕ → ℤ → FigureNumbers → Type 0
ScreenPromise job second answer figures = (n : ℕ) → answer ≡ pos n → NumbersTold job second figures

-- What the table call answers for a list of rates, a book and so many places.
abbrev pub table_number : List ℕ → List ℕ → ℕ → ℤ
table_number rates book capacity = answer_number (table_answer rates book capacity)

-- What the call for periods of airing answers.
abbrev pub periods_number : List ℕ → List ℕ → ℕ → ℤ
periods_number periods book capacity = answer_number (periods_answer periods book capacity)

-- What the calls for the lowest rate answer for a job and what is lent beside it.
abbrev pub lowest_rate_number : List ℕ → List ℕ → ℤ
lowest_rate_number job second = lowest_number (lowest_with job second)

-- The set's number afterwards: that of the set in use, where a rate or none is answered; a refusal leaves it as it was.
abbrev pub lowest_set_left : Result LowestRate Refusal → ℕ → ℕ
lowest_set_left (Ok answer) set = set_number answer.set
lowest_set_left (Err refusal) set = set

-- What the call for marks answers for a table and a book: how many entries were marked.
abbrev pub entries_number : Result Marks Refusal → ℤ
entries_number (Ok marks) = pos (marks.right + marks.close + marks.wrong)
entries_number (Err refusal) = refused_number refusal

abbrev pub marks_number : List ℕ → List ℕ → ℤ
marks_number text book = entries_number (marks_answer text book)

-- The five numbers afterwards: how many are right, close and wrong, and the line and the member of the first wrong one,
-- or 0 and 0 where none is; a refusal leaves them as they were.
abbrev pub place_numbers : Option Place → List ℕ
place_numbers None = 0 ∷ 0 ∷ []
place_numbers (Some place) = place.line ∷ place.member ∷ []

abbrev pub five_numbers : Marks → List ℕ
five_numbers marks = marks.right ∷ marks.close ∷ marks.wrong ∷ place_numbers marks.first

abbrev pub marks_left : Result Marks Refusal → List ℕ → List ℕ
marks_left (Ok marks) list = five_numbers marks
marks_left (Err refusal) list = list

-- What the call for many rates answers: how many of them were run.
abbrev pub run_number : List ℕ → List ℤ → ℤ
run_number rates answers = pos (length (rates_run rates answers))

-- What the version call answers: version 0.10.0.
abbrev pub version : ℕ
version = 1000000 * 0 + 1000 * 10 + 0
