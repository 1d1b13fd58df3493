-- An exposure in whole hours, restated in quarter hours, has four times its X and Y. Ground 6 is met by the same
-- exposures, since 4 times a number passes 96 where the number passes 24.
use Prim.Native.Nat.{ℕ, ◌*◌}
use native.Mathlib.Omega.{arith}
use mathlib.Core.Path.{◌≡◌, refl}
use mathlib.Core.Bool.{Bool, true, false}
use lib.Dec.{ltb}
use borrow.Author.Tests.{ltb-true, ltb-false, lt-ltb, le-ltb}
use Rattle.exposure.specs.Totals.{X, Y}
use Rattle.exposure.specs.Exposure.{max_quarter_hours, exposure_out_of_range}
use Rattle.exposure.specs.WholeHours.{HoursExposure, in_quarters, hours_x, hours_y, hours_out_of_range, HoursPromise}
use Rattle.exposure.specs.declared.kind.Kind.{Kind}

over_by : (h : ℕ) (t : Bool) → ltb 24 h ≡ t → ltb max_quarter_hours (4 * h) ≡ t
over_by h true e = lt-ltb max_quarter_hours (4 * h) (omega (arith, ltb-true 24 h e))
over_by h false e = le-ltb max_quarter_hours (4 * h) (omega (arith, ltb-false 24 h e))

over_same : (h : ℕ) → ltb max_quarter_hours (4 * h) ≡ ltb 24 h
over_same h = over_by h (ltb 24 h) refl

ground_of : (e : HoursExposure) → exposure_out_of_range (in_quarters e) ≡ hours_out_of_range e
unfolding exposure_out_of_range
ground_of e = rw (over_same e.child.hours, over_same e.adult.hours)

x_restated : (kind : Kind) (e : HoursExposure) → X kind (in_quarters e) ≡ 4 * hours_x kind e
x_restated Kind.Risk e = omega arith
x_restated Kind.Dose e = omega arith

y_restated : (kind : Kind) (e : HoursExposure) → Y kind (in_quarters e) ≡ 4 * hours_y kind e
y_restated Kind.Risk e = omega arith
y_restated Kind.Dose e = omega arith

pub whole_hours : HoursPromise
whole_hours = record { residential = refl; worker = refl; ground_of = ground_of; x = x_restated; y = y_restated }
