-- Everything that is promised. Demand 3's half of the factors is proved in balance, what holds of any assessment in
-- verdict, the reading's promise in reading, the exposure's in exposure, and the rest in OneDenominator, Soundness,
-- Falling, Answers, Restated, UnroundedShares, SecondSet and JobChecks.
use Prim.Native.Nat.{ℕ}
use mathlib.Core.Path.{◌≡◌, refl}
use mathlib.Core.Bool.{Bool, true, false, cond}
use mathlib.Core.List.{[], ◌∷◌}
use lib.Dec.{ltb}
use Rattle.refusals.specs.Grounds.{ground_of, first_met}
use Rattle.refusals.specs.declared.Refusal.TheVariants.{ReadingUnusable, ConcentrationTooHigh}
use Rattle.reading.specs.Reading.{figure, unusable, whole, max_concentration, intake_checked}
use Rattle.std.specs.Prelude.{Ok, Err}
use Rattle.reading.specs.declared.error.ReadingError.{ReadingError}
use Rattle.reading.proofs.Promised.{reading_promise}
use Rattle.balance.proofs.Promised.{factor_promises}
use Rattle.screening.specs.Promises.{Demand3, Promises}
use Rattle.exposure.proofs.Promised.{exposure_promises}
use Rattle.screening.proofs.OneDenominator.{one_denominator}
use Rattle.screening.proofs.Soundness.{verdict_promise}
use Rattle.screening.proofs.Falling.{no_worse, equilibrium_at_most_one, at_rest}
use Rattle.verdict.proofs.Level.{level_promise}
use Rattle.verdict.proofs.CommonFactor.{common_factor}
use Rattle.verdict.proofs.Promised.{assessment_promises}
use Rattle.screening.proofs.JobChecks.{reading_checked}
use Rattle.screening.proofs.Answers.{answer_promise, levels, no_worse_answer}
use Rattle.screening.proofs.Restated.{whole_hours}
use Rattle.screening.proofs.UnroundedShares.{unrounded_shares}
use Rattle.screening.proofs.SecondSet.{second_set}

pub demand_3 : Demand3
demand_3 =
    record {
      factors = factor_promises;
      one_denominator = one_denominator;
      verdict = verdict_promise;
      answer = answer_promise;
      no_worse =
          λ by book coefficient v w C accepted rises within. no_worse book coefficient v w accepted rises within by C;
      no_worse_answer = λ job other second figures others same rises answered other-answered.
          no_worse_answer job other second same figures others rises answered other-answered;
      level = level_promise;
      equilibrium_at_most_one =
          λ book coefficient v accepted within some. equilibrium_at_most_one book coefficient v accepted within;
      levels = levels;
      at_rest = at_rest;
    }

whole_grounds :
    (unusable high : Bool) (n : ℕ)
    → intake_checked (cond unusable (Err ReadingError.Unusable) (cond high (Err ReadingError.TooLarge) (Ok n)))
    ≡ first_met (ground_of ReadingUnusable unusable ∷ ground_of ConcentrationTooHigh high ∷ [])
whole_grounds true high n = refl
whole_grounds false true n = refl
whole_grounds false false n = refl

pub promises : Promises
promises =
    record {
      demand3 = demand_3;
      assessments = assessment_promises;
      common_factor = λ k a b pos common. common_factor k pos a b common;
      exposure = exposure_promises;
      whole_hours = whole_hours;
      unrounded_shares = unrounded_shares;
      second_set = second_set;
      reading = reading_promise;
      grounds_of_amount =
          λ amount. whole_grounds (unusable (figure amount)) (ltb max_concentration (whole amount)) (whole amount);
      grounds_of_reading = reading_checked;
    }
