-- A job with a rate written into its rate field, and what is answered to it.
use Rattle.std.specs.Prelude.{ℕ, ◌/◌, ◌%◌, ◌^◌, ◌≡◌, List, [], ◌∷◌, ◌++◌, drop, Ok}
use Rattle.screening.specs.Job.{rate_length}
use Rattle.screening.specs.Screening.{answer_with}
use Rattle.screening.specs.declared.job.Answer.{Answer}
use Rattle.verdict.specs.declared.verdict.Verdict.{Verdict}

-- Four bytes, the lowest first.
abbrev pub rate_bytes : ℕ → List ℕ
rate_bytes v = v % 2 ^ 8 ∷ v / 2 ^ 8 % 2 ^ 8 ∷ v / 2 ^ 16 % 2 ^ 8 ∷ v / 2 ^ 24 % 2 ^ 8 ∷ []

abbrev pub with_rate : ℕ → List ℕ → List ℕ
with_rate v job = rate_bytes v ++ drop rate_length job

-- The job is accepted, with what is lent beside it, and this is the verdict on it.
pub record Judged (job second : List ℕ) (verdict : Verdict) : Type 0 where
  pub answer : Answer
  pub accepted : answer_with job second ≡ Ok answer
  pub given : answer.figures.verdict ≡ verdict
