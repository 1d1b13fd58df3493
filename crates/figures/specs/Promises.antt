-- What the numbers of an answer promise.
use Rattle.std.specs.Prelude.{ℕ, ◌≡◌, List, Option, Result, Ok}
use Rattle.refusals.specs.declared.Refusal.{Refusal}
use Rattle.coefficients.specs.Sets.{coefficient_in_use}
use Rattle.screening.specs.Job.{rate, book_of}
use Rattle.screening.specs.Screening.{criterion_of}
use Rattle.screening.specs.Promises.{VerdictPromise, LevelsPromise}
use Rattle.verdict.specs.Verdict.{verdict_order}
use Rattle.verdict.specs.WorkingLevels.{equilibrium_number, micro_number}
use Rattle.verdict.specs.declared.verdict.Verdict.{Verdict}
use Rattle.verdict.specs.declared.working.WorkingLevels.{WorkingLevels}
use Rattle.figures.specs.declared.FigureNumbers.{FigureNumbers}

-- The verdict's number is that of a verdict that the exact balance bears out; the working levels' numbers are those of
-- levels that keep their promise.
pub record NumbersTold (job second : List ℕ) (figures : FigureNumbers) : Type 0 where
  pub given : Verdict
  pub verdict : figures.verdict ≡ verdict_order given
  pub told :
      VerdictPromise (criterion_of job) (book_of job) (coefficient_in_use (book_of job) second) (rate job)
      figures.concentration given
  pub levels : Option WorkingLevels
  pub equilibrium : figures.equilibrium ≡ equilibrium_number levels
  pub working : figures.working ≡ micro_number levels
  pub levels_told : LevelsPromise job second levels

-- Where the call answers a number, the numbers that it leaves do.
abbrev pub NumbersPromise : List ℕ → List ℕ → Result ℕ Refusal → FigureNumbers → Type 0
NumbersPromise job second answer figures = (n : ℕ) → answer ≡ Ok n → NumbersTold job second figures
