-- A text with the set's name has a line, a report and the line of a rate, or is the line of a refusal.
use Rattle.std.specs.Prelude.{Result, Ok, Err}
use Prim.Native.Nat.{ℕ, ◌≤◌}
use native.Mathlib.Omega.{arith}
use mathlib.Core.Path.{◌≡◌}
use mathlib.Core.List.{List, ◌++◌}
use lib.ListN.{length, length-append}
use Rattle.text.proofs.Digits.{decimal_at_most}
use Rattle.refusals.specs.declared.Refusal.{Refusal}
use Rattle.refusals.specs.Grounds.{refusal_number}
use Rattle.book.specs.Limits.{max_members}
use Rattle.coefficients.specs.Sets.{set_number}
use Rattle.screening.specs.Screening.{answer_with}
use Rattle.screening.specs.declared.job.Answer.{Answer}
use Rattle.screening.proofs.Answers.{few}
use Rattle.ventilation.specs.Lowest.{lowest_with}
use Rattle.ventilation.specs.declared.LowestRate.{LowestRate}
use Rattle.text.specs.Words.{line}
use Rattle.report.specs.Report.{answer_lines, line_room, report_room, text_of}
use Rattle.report.specs.RateLine.{line_of}
use Rattle.report.specs.BySet.{named_text, partner_text, partner_room}
use Rattle.report.proofs.ReportLengths.{lines_at_most}
use Rattle.report.proofs.RateLineFits.{line_fits}

pub named_fits :
    (answer : Result Answer Refusal) (lowest : Result LowestRate Refusal) →
    ((given : Answer) → answer ≡ Ok given → given.count ≤ max_members) →
    length (named_text answer lowest) ≤ partner_room
unfolding named_text text_of
named_fits (Ok answer) lowest few =
    let n = set_number answer.figures.set in
    let set : length (line "set " n) ≤ line_room "set " = simp length-append (omega (arith, decimal_at_most n)) in
    let lines : length (answer_lines answer) ≤ report_room = lines_at_most (Ok answer) few in
    omega (
      arith,
      length-append (line "set " n ++ answer_lines answer) (line_of lowest),
      length-append (line "set " n) (answer_lines answer),
      line_fits lowest,
    )
named_fits (Err refusal) lowest few = simp length-append (omega (arith, decimal_at_most (refusal_number refusal)))

pub partner_fits : (job second : List ℕ) → length (partner_text job second) ≤ partner_room
partner_fits job second = named_fits (answer_with job second) (lowest_with job second) (few job second)
