-- How long the parts of a report are. Each number has at most 20 digits and each book at most 16 members, so no report
-- is longer than `report_room`; and every report has a line, so that a length of 0 says only that there was no room.
use Prim.Native.Nat.{ℕ, ◌+◌, ◌*◌, ◌^◌, ◌≤◌, ◌<◌}
use native.Mathlib.Omega.{arith}
use mathlib.Core.Path.{◌≡◌, refl}
use mathlib.Core.List.{List, ◌++◌}
use lib.ListN.{length, length-append, length-take, take}
use Rattle.std.proofs.lemmas.List.{take_min}
use Rattle.std.specs.Prelude.{Option, None, Some}
use Rattle.book.specs.Limits.{max_members}
use Rattle.text.specs.Words.{decimal}
use Rattle.text.proofs.Digits.{decimal_at_most}
use Rattle.text.proofs.Pieces.{each_at_most}
use Rattle.refusals.specs.Grounds.{refusal_number}
use Rattle.report.specs.Report.{factor_line, factor_lines, verdict_line, working_lines}
use Rattle.report.specs.Report.{figure_lines, refused_line, text_of}
use Rattle.report.specs.Report.{factor_line_room, working_room, figures_room, report_room}
use Rattle.screening.specs.declared.job.Figures.{Figures}
use Rattle.screening.specs.declared.job.Answer.{Answer}
use Rattle.refusals.specs.declared.Refusal.{Refusal}
use Rattle.std.specs.Prelude.{Result, Ok, Err}
use Rattle.verdict.specs.declared.verdict.Verdict.{Verdict}
use Rattle.verdict.specs.declared.verdict.Verdict.TheVariants.{Below, Close, Above}
use Rattle.verdict.specs.declared.working.WorkingLevels.{WorkingLevels}

pub verdict_length : (verdict : Verdict) → length (verdict_line verdict) ≡ 14
unfolding verdict_line
verdict_length Below = refl
verdict_length Close = refl
verdict_length Above = refl

pub figures_measured :
    (figures : Figures) →
    length (figure_lines figures)
    ≡ 36 + length (decimal figures.concentration) + length (decimal figures.level)
    + length (working_lines figures.working)
figures_measured figures = simp length-append (omega (arith, verdict_length figures.verdict))

factor_line_at_most : (member factor : ℕ) → length (factor_line member factor) ≤ factor_line_room
factor_line_at_most member factor = simp length-append (omega (arith, decimal_at_most member, decimal_at_most factor))

factor_lines_at_most : (factors : List ℕ) → length (factor_lines factors) ≤ factor_line_room * length factors
factor_lines_at_most factors =
    each_at_most factor_line (λ _. Unit {0}) factor_line_room (λ k x _. factor_line_at_most k x) 0 factors (λ _ _. tt)

working_at_most : (working : Option WorkingLevels) → length (working_lines working) ≤ working_room
working_at_most None = omega arith
working_at_most (Some levels) =
    simp length-append (omega (arith, decimal_at_most levels.equilibrium, decimal_at_most levels.micro))

figures_at_most : (figures : Figures) → length (figure_lines figures) ≤ figures_room
figures_at_most figures =
    let concentration = decimal_at_most figures.concentration in
    let level = decimal_at_most figures.level in
    let working = working_at_most figures.working in
    omega (arith, figures_measured figures)

pub lines_at_most :
    (result : Result Answer Refusal) → ((answer : Answer) → result ≡ Ok answer → answer.count ≤ max_members) →
    length (text_of result) ≤ report_room
unfolding text_of
lines_at_most (Ok answer) few =
    let factors = take answer.count answer.factors in
    let both = length-append (factor_lines factors) (figure_lines answer.figures) in
    let figures = figures_at_most answer.figures in
    omega (arith, length-take answer.count answer.factors, few answer refl, factor_lines_at_most factors)
lines_at_most (Err refusal) few =
    simp length-append (omega (arith, decimal_at_most (refusal_number refusal)))

pub lines_some : (result : Result Answer Refusal) → 0 < length (text_of result)
unfolding text_of
lines_some (Ok answer) =
    let both = length-append (factor_lines (take answer.count answer.factors)) (figure_lines answer.figures) in
    omega (arith, figures_measured answer.figures)
lines_some (Err refusal) = omega arith

-- So the lines of an answer, and a refusal's, are counted in a word.
pub screened_within_a_word :
    (factors : List ℕ) (n : ℕ) (figures : Figures) → n ≤ max_members →
    length (factor_lines (take n factors) ++ figure_lines figures) < 2 ^ 64
screened_within_a_word factors n figures few =
    let both = length-append (factor_lines (take n factors)) (figure_lines figures) in
    omega (arith, length-take n factors, factor_lines_at_most (take n factors), figures_at_most figures)

pub refused_within_a_word : (refusal : Refusal) → length (refused_line refusal) < 2 ^ 64
refused_within_a_word refusal = simp length-append (omega (arith, decimal_at_most (refusal_number refusal)))

-- What the writing of an answer reads.
pub ruleset answering = (take_min, refused_within_a_word)
