-- The answer to a job as plain numbers, and the lent places afterwards.
use Rattle.std.specs.Prelude.{ℕ, cond, ltb, List, ◌++◌, take, drop, Result, Ok, Err}
use Rattle.coefficients.specs.Sets.{set_number}
use Rattle.refusals.specs.declared.Refusal.{Refusal}
use Rattle.verdict.specs.Verdict.{verdict_order}
use Rattle.verdict.specs.WorkingLevels.{equilibrium_number, micro_number}
use Rattle.screening.specs.declared.job.Answer.{Answer}
use Rattle.screening.specs.declared.job.Figures.{Figures}
use Rattle.figures.specs.declared.FigureNumbers.{FigureNumbers}

-- An answer's figures, a number each.
abbrev pub figures_of : Figures → ℕ → FigureNumbers
figures_of figures count =
    record {
      verdict = verdict_order figures.verdict;
      concentration = figures.concentration;
      level = figures.level;
      equilibrium = equilibrium_number figures.working;
      working = micro_number figures.working;
      count = count;
    }

-- The answer to a job where the list that is lent has so many places:
-- after the job's own grounds and the second set's, 19, the list is shorter than n.
abbrev pub lent : Result Answer Refusal → ℕ → Result Answer Refusal
lent (Ok answer) places = cond (ltb places answer.count) (Err Refusal.ListTooShort) (Ok answer)
lent (Err refusal) places = Err refusal

-- Accepted, the call answers n.
abbrev pub count_answered : Result Answer Refusal → Result ℕ Refusal
count_answered (Ok answer) = Ok answer.count
count_answered (Err refusal) = Err refusal

-- The figures are then the answer's, the set's number names the set in use, and the first n places of the list hold the
-- factors; a refusal leaves all three as they were.
abbrev pub figures_left : Result Answer Refusal → FigureNumbers → FigureNumbers
figures_left (Ok answer) figures = figures_of answer.figures answer.count
figures_left (Err refusal) figures = figures

abbrev pub set_left : Result Answer Refusal → ℕ → ℕ
set_left (Ok answer) set = set_number answer.figures.set
set_left (Err refusal) set = set

abbrev pub factors_left : Result Answer Refusal → List ℕ → List ℕ
factors_left (Ok answer) list = take answer.count answer.factors ++ drop answer.count list
factors_left (Err refusal) list = list
