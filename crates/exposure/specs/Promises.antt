-- What is promised of an exposure.
use Rattle.std.specs.Prelude.{ℕ, ◌+◌, ◌*◌, ◌≤◌, ◌<◌, ◌≡◌, [], ◌∷◌}
use Rattle.refusals.specs.Grounds.{ground_of, first_met}
use Rattle.refusals.specs.declared.Refusal.TheVariants.{ExposureOutOfRange}
use Rattle.rounding.specs.Nearest.{NearestPromise}
use Rattle.exposure.specs.Totals.{share}
use Rattle.exposure.specs.Exposure.{exposure_out_of_range, exposure_answer, exposure_checked}
use Rattle.exposure.specs.WholeHours.{HoursPromise}
use Rattle.exposure.specs.declared.groups.Exposure.{Exposure}

-- The shares of two groups add up to 100 or to 101, never to 99: where one is rounded down the other is rounded up, and
-- two halves both go up.
pub record SharesPromise (child adult : ℕ) : Type 0 where
  pub at_least : 100 ≤ share child (child + adult) + share adult (child + adult)
  pub at_most : share child (child + adult) + share adult (child + adult) ≤ 101

pub record ExposurePromises : Type 0 where
  -- the constructor refuses by ground 6 of the list, and by nothing else
  pub by_ground :
      (e : Exposure)
      → exposure_checked (exposure_answer e) ≡ first_met (ground_of ExposureOutOfRange (exposure_out_of_range e) ∷ [])
  -- a share of the years is 100 × ED / Z rounded to the nearest whole, halves up, and no other number is (document 02,
  -- R-2)
  pub one_share : (ED Z : ℕ) → 0 < Z → NearestPromise (100 * ED) Z
  pub both_shares : (child adult : ℕ) → 0 < child + adult → SharesPromise child adult
  -- an exposure in whole hours is what it was (document 02, R-1)
  pub whole_hours : HoursPromise
