-- Everything that is promised of any assessment: the laws of Soundness, Level, Falling, CommonFactor and Restated.
use Rattle.verdict.specs.Promises.{AssessmentPromises}
use Rattle.verdict.proofs.Soundness.{verdict_promise}
use Rattle.verdict.proofs.Level.{level_promise}
use Rattle.verdict.proofs.Falling.{no_worse}
use Rattle.verdict.proofs.CommonFactor.{common_factor}
use Rattle.verdict.proofs.Restated.{restated}

pub assessment_promises : AssessmentPromises
assessment_promises =
    record {
      verdict = λ a P x C pos enclosed. verdict_promise a C P x enclosed pos;
      level = level_promise;
      no_worse = λ a b C falls. no_worse a b falls C;
      common_factor = λ k a b pos common. common_factor k pos a b common;
      whole_hours = restated;
    }
