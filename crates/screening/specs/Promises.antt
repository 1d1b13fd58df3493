-- What is promised: demand 3, whole, for every rate from 0 to 100,000, every chain that the checks accept, and every
-- job over it; and what the answers of the reading say.
use Rattle.refusals.specs.declared.Refusal.{Refusal}
use Rattle.std.specs.Prelude.{ℕ, ◌*◌, ◌-◌, ◌≤◌, ◌<◌, ◌≡◌, List, [], ◌∷◌, ltb, get_or, drop, Option, Result, Ok}
use Rattle.refusals.specs.Grounds.{ground_of, first_met}
use Rattle.refusals.specs.declared.Refusal.TheVariants.{ReadingUnusable, ConcentrationTooHigh}
use Rattle.book.specs.Fields.{members, scale_of}
use Rattle.coefficients.specs.Sets.{coefficient_in_use}
use Rattle.book.specs.BookGrounds.{Accepted}
use Rattle.book.specs.Rates.{max_rate, rates_at}
use Rattle.balance.specs.Chain.{Chain, chain_of}
use Rattle.balance.specs.Exact.{numerators, numerator, denominator}
use Rattle.balance.specs.Promises.{FactorPromises}
use Rattle.reading.specs.Reading.{figure, unusable, whole, max_concentration, reading_unusable}
use Rattle.reading.specs.Reading.{concentration_too_high, whole_answer, intake_checked}
use Rattle.reading.specs.Promises.{ReadingPromise}
use Rattle.reading.specs.declared.amounts.Amount.{Amount}
use Rattle.screening.specs.Job.{rate, rate_length, reading_of, for_reading, intake_of, book_of}
use Rattle.exposure.specs.Promises.{ExposurePromises}
use Rattle.verdict.specs.Verdict.{Assessment, verdict_at, verdict_order}
use Rattle.verdict.specs.Promises.{LevelPromise, AssessmentPromises}
use Rattle.verdict.specs.Promises as any
use Rattle.verdict.specs.WorkingLevels.{equilibrium, no_figure, equilibrium_number, micro_number}
use Rattle.screening.specs.Screening.{criterion_of, assessment_at, alpha_at, alpha_at_rest, answer_with}
use Rattle.verdict.specs.CommonFactor.{CommonFactor, Unchanged}
use Rattle.screening.specs.WholeHours.{WholeHoursPromise}
use Rattle.screening.specs.UnroundedShares.{UnroundedPromise}
use Rattle.screening.specs.SecondSet.{SecondSetPromise}
use Rattle.screening.specs.declared.job.Answer.{Answer}
use Rattle.verdict.specs.declared.verdict.Criterion.{Criterion}
use Rattle.verdict.specs.declared.verdict.Verdict.{Verdict}
use Rattle.verdict.specs.declared.working.WorkingLevels.{WorkingLevels}

-- The exact factor of member i, as a numerator over the denominator of the last member.
abbrev pub exact_denominator : List ℕ → ℕ → ℕ
exact_denominator book v = denominator (scale_of book) (chain_of book) (rates_at book v) (members book - 1)

abbrev pub exact_factor : List ℕ → ℕ → ℕ → ℕ
exact_factor book v i = get_or (numerators (scale_of book) (chain_of book) (rates_at book v) (members book - 1)) i 0

-- What a verdict given at rate v and concentration C says of the exact risk or dose, which has these exact factors:
-- 'below' only if it is at most the target, 'above' only if it is more, 'close' only if the two differ by no more than
-- the gap.
abbrev pub VerdictPromise : Criterion → List ℕ → (ℕ → ℕ → ℕ) → ℕ → ℕ → Verdict → Type 0
VerdictPromise by book coefficient v C given =
    any.VerdictPromise (assessment_at by book coefficient v) (exact_denominator book v) (exact_factor book v) C given

-- What the answer to a job promises, with a second set or without one: where it has figures, its verdict tells the
-- truth.
abbrev pub AnswerPromise : List ℕ → List ℕ → Result Answer Refusal → Type 0
AnswerPromise job second result =
    (answer : Answer) → result ≡ Ok answer →
    VerdictPromise (criterion_of job) (book_of job) (coefficient_in_use (book_of job) second)
    (rate job) answer.figures.concentration answer.figures.verdict

-- What the working levels of an answer say, by their numbers: they are none's where Fm's divisor is 0, and nowhere
-- else; Fm is at most 1,000,000.
pub record LevelsPromise (job second : List ℕ) (working : Option WorkingLevels) : Type 0 where
  pub none :
      alpha_at_rest (book_of job) (coefficient_in_use (book_of job) second) ≡ 0 →
      (equilibrium_number working ≡ no_figure) × (micro_number working ≡ no_figure)
  pub some :
      0 < alpha_at_rest (book_of job) (coefficient_in_use (book_of job) second) →
      (equilibrium_number working ≤ 1000000) × (micro_number working < no_figure)

pub record Demand3 : Type 0 where
  pub factors : FactorPromises
  -- over the last member's denominator each numerator is the same fraction as over the member's own
  pub one_denominator :
      (scale : ℕ) (chain : Chain) (rate : ℕ → ℕ) (i k : ℕ) → k ≤ i →
      get_or (numerators scale chain rate i) k 0 * denominator scale chain rate k
      ≡ numerator scale chain rate k * denominator scale chain rate i
  pub verdict :
      (by : Criterion) (book : List ℕ) (coefficient : ℕ → ℕ → ℕ) (v C : ℕ) → Accepted book → v ≤ max_rate →
      VerdictPromise by book coefficient v C (verdict_at (assessment_at by book coefficient v) C)
  pub answer : (job second : List ℕ) → AnswerPromise job second (answer_with job second)
  -- a higher rate never gives a worse verdict
  pub no_worse :
      (by : Criterion) (book : List ℕ) (coefficient : ℕ → ℕ → ℕ) (v w C : ℕ) → Accepted book → v ≤ w → w ≤ max_rate →
      verdict_order (verdict_at (assessment_at by book coefficient w) C)
      ≤ verdict_order (verdict_at (assessment_at by book coefficient v) C)
  -- nor does a job that differs from another in the rate's bytes alone
  pub no_worse_answer :
      (job other second : List ℕ) (answer another : Answer) → drop rate_length job ≡ drop rate_length other →
      rate job ≤ rate other → answer_with job second ≡ Ok answer → answer_with other second ≡ Ok another →
      verdict_order another.figures.verdict ≤ verdict_order answer.figures.verdict
  pub level : (a : Assessment) → LevelPromise a
  -- Fm is at most 1,000,000
  pub equilibrium_at_most_one :
      (book : List ℕ) (coefficient : ℕ → ℕ → ℕ) (v : ℕ) →
      Accepted book → v ≤ max_rate → 0 < alpha_at_rest book coefficient →
      equilibrium (alpha_at book coefficient v) (alpha_at_rest book coefficient) ≤ 1000000
  pub levels :
      (job second : List ℕ) (answer : Answer) →
      answer_with job second ≡ Ok answer → LevelsPromise job second answer.figures.working
  -- and its divisor is the sum at rate 0
  pub at_rest : (book : List ℕ) (coefficient : ℕ → ℕ → ℕ) → alpha_at book coefficient 0 ≡ alpha_at_rest book coefficient

pub record Promises : Type 0 where
  pub demand3 : Demand3
  -- what demand 3 says of a verdict and a level holds of any assessment
  pub assessments : AssessmentPromises
  -- every weight and B times the same k above 0 leave verdict and level as they were
  pub common_factor : (k : ℕ) (a b : Assessment) → 0 < k → CommonFactor k a b → Unchanged a b
  -- the exposure's own
  pub exposure : ExposurePromises
  -- a room in whole hours comes out as it did (document 02, R-1)
  pub whole_hours : WholeHoursPromise
  -- so does yearly dose, where no share is rounded (R-2)
  pub unrounded_shares : UnroundedPromise
  -- an answer by a second set is that of the book with the set written over its own (R-7)
  pub second_set : SecondSetPromise
  -- a number is the smallest that is not below the exact value
  pub reading : (amount : Amount) → ReadingPromise amount (whole_answer amount)
  -- and the grounds are those of the list, 7 and 8, of one amount and of a job's reading
  pub grounds_of_amount :
      (amount : Amount) →
      intake_checked (whole_answer amount)
      ≡ first_met (ground_of ReadingUnusable (unusable (figure amount))
      ∷ ground_of ConcentrationTooHigh (ltb max_concentration (whole amount)) ∷ [])
  pub grounds_of_reading :
      (job : List ℕ) →
      intake_checked (intake_of job)
      ≡ first_met (ground_of ReadingUnusable (reading_unusable (reading_of job))
      ∷ ground_of ConcentrationTooHigh (for_reading concentration_too_high job) ∷ [])
