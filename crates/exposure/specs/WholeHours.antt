-- An exposure in whole hours, as document 01 had it before document 02's R-1: its limits, its defaults, its X, Y and Z,
-- for dose with R-2's share.
-- No room is judged by these any more. They say what "must come out unchanged" means of an exposure, at the end.
use Rattle.std.specs.Prelude.{ℕ, ◌+◌, ◌*◌, ◌≡◌, Bool, ◌||◌, ltb, eqb}
use Rattle.exposure.specs.Totals.{share, X, Y}
use Rattle.exposure.specs.Exposure.{max_days, max_years, max_breathing, group}
use Rattle.exposure.specs.Exposure.{residential, worker, exposure_out_of_range}
use Rattle.exposure.specs.declared.groups.Group.{Group}
use Rattle.exposure.specs.declared.groups.Exposure.{Exposure}
use Rattle.exposure.specs.declared.kind.Kind.{Kind}

-- Days per year EF, years ED, hours per day ET, breathing IRA.
pub record HoursGroup : Type 0 where
  pub days : ℕ
  pub years : ℕ
  pub hours : ℕ
  pub breathing : ℕ

pub record HoursExposure : Type 0 where
  pub child : HoursGroup
  pub adult : HoursGroup

-- Restated in quarter hours.
abbrev pub group_in_quarters : HoursGroup → Group
group_in_quarters g = group g.days g.years (4 * g.hours) g.breathing

abbrev pub in_quarters : HoursExposure → Exposure
in_quarters e = record { child = group_in_quarters e.child; adult = group_in_quarters e.adult }

-- The sum of ED.
abbrev pub hours_z : HoursExposure → ℕ
hours_z e = e.child.years + e.adult.years

-- For risk the sum of EF·ED·ET·IRA; for dose that of EF·ET·IRA times the share.
abbrev pub hours_x : Kind → HoursExposure → ℕ
hours_x Kind.Risk e =
    e.child.days * e.child.years * e.child.hours * e.child.breathing
    + e.adult.days * e.adult.years * e.adult.hours * e.adult.breathing
hours_x Kind.Dose e =
    e.child.days * e.child.hours * e.child.breathing * share e.child.years (hours_z e)
    + e.adult.days * e.adult.hours * e.adult.breathing * share e.adult.years (hours_z e)

-- For risk the sum of EF·ED·ET; for dose that of EF-as-ET times the share.
abbrev pub hours_y : Kind → HoursExposure → ℕ
hours_y Kind.Risk e = e.child.days * e.child.years * e.child.hours + e.adult.days * e.adult.years * e.adult.hours
hours_y Kind.Dose e =
    e.child.days * e.child.hours * share e.child.years (hours_z e)
    + e.adult.days * e.adult.hours * share e.adult.years (hours_z e)

-- Child 350, 6, 24, 10 with adult 350, 20, 24, 20; worker 250, 25, 8, 60 as adult with the child group all zero.
abbrev pub hours_group : ℕ → ℕ → ℕ → ℕ → HoursGroup
hours_group days years hours breathing = record { days = days; years = years; hours = hours; breathing = breathing }

abbrev pub hours_residential : HoursExposure
hours_residential = record { child = hours_group 350 6 24 10; adult = hours_group 350 20 24 20 }

abbrev pub hours_worker : HoursExposure
hours_worker = record { child = hours_group 0 0 0 0; adult = hours_group 250 25 8 60 }

-- 6. A group has EF over 366, ED over 100, ET over 24 or IRA over 100, or Z is 0.
abbrev pub hours_group_out_of_range : HoursGroup → Bool
hours_group_out_of_range g =
    ltb max_days g.days || ltb max_years g.years || ltb 24 g.hours || ltb max_breathing g.breathing

abbrev pub hours_out_of_range : HoursExposure → Bool
hours_out_of_range e = hours_group_out_of_range e.child || hours_group_out_of_range e.adult || eqb (hours_z e) 0

-- Restated in quarter hours, it is the exposure of before.
pub record HoursPromise : Type 0 where
  -- the defaults are document 01's
  pub residential : residential ≡ in_quarters hours_residential
  pub worker : worker ≡ in_quarters hours_worker
  -- ground 6 refuses what it refused
  pub ground_of : (e : HoursExposure) → exposure_out_of_range (in_quarters e) ≡ hours_out_of_range e
  -- X and Y have the factor 4
  pub x : (kind : Kind) (e : HoursExposure) → X kind (in_quarters e) ≡ 4 * hours_x kind e
  pub y : (kind : Kind) (e : HoursExposure) → Y kind (in_quarters e) ≡ 4 * hours_y kind e
