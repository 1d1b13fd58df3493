-- Everything that is promised of an exposure.
use Prim.Native.Nat.{◌*◌}
use mathlib.Core.Path.{◌≡◌, refl}
use mathlib.Core.Bool.{Bool, true, false, cond}
use mathlib.Core.List.{[], ◌∷◌}
use Rattle.std.specs.Prelude.{Ok, Err}
use Rattle.refusals.specs.Grounds.{ground_of, first_met}
use Rattle.refusals.specs.declared.Refusal.TheVariants.{ExposureOutOfRange}
use Rattle.rounding.proofs.Between.{nearest_promise}
use Rattle.exposure.specs.Exposure.{exposure_out_of_range, exposure_checked}
use Rattle.exposure.specs.Promises.{ExposurePromises}
use Rattle.exposure.specs.declared.groups.Exposure.{Exposure}
use Rattle.exposure.proofs.Shares.{shares_promise}
use Rattle.exposure.proofs.Restated.{whole_hours}

by_ground :
    (e : Exposure) (out : Bool)
    → exposure_checked (cond out (Err ExposureOutOfRange) (Ok e))
    ≡ first_met (ground_of ExposureOutOfRange out ∷ [])
by_ground e true = refl
by_ground e false = refl

pub exposure_promises : ExposurePromises
exposure_promises =
    record {
      by_ground = λ e. by_ground e (exposure_out_of_range e);
      one_share = λ ED Z pos. nearest_promise (100 * ED) Z pos;
      both_shares = shares_promise;
      whole_hours = whole_hours;
    }
