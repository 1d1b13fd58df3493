-- The defaults of an exposure, its limits, and ground 6 (document 01). ET is in quarter hours (document 02, R-1).
use Rattle.std.specs.Prelude.{ℕ, zero, suc, Bool, cond, ◌||◌, ltb, eqb, Result, Ok, Err}
use Rattle.refusals.specs.Grounds.{Checked}
use Rattle.refusals.specs.declared.Refusal.{Refusal}
use Rattle.exposure.specs.Totals.{Z}
use Rattle.exposure.specs.declared.groups.Group.{Group}
use Rattle.exposure.specs.declared.groups.Exposure.{Exposure}
use Rattle.exposure.specs.declared.kind.Kind.{Kind}

-- The defaults of source 001, supplied by name: a resident and a worker.
abbrev pub group : ℕ → ℕ → ℕ → ℕ → Group
group days years quarters breathing =
    record { days = days; years = years; quarter_hours = quarters; breathing = breathing }

abbrev pub residential : Exposure
residential = record { child = group 350 6 96 10; adult = group 350 20 96 20 }

abbrev pub worker : Exposure
worker = record { child = group 0 0 0 0; adult = group 250 25 32 60 }

abbrev pub max_days : ℕ
max_days = 366

abbrev pub max_years : ℕ
max_years = 100

abbrev pub max_quarter_hours : ℕ
max_quarter_hours = 96

abbrev pub max_breathing : ℕ
max_breathing = 100

-- 6. A group has EF over 366, ED over 100, ET over 96 or IRA over 100, or Z is 0.
abbrev pub group_out_of_range : Group → Bool
group_out_of_range g =
    ltb max_days g.days || ltb max_years g.years || ltb max_quarter_hours g.quarter_hours
    || ltb max_breathing g.breathing

unfoldable pub exposure_out_of_range : Exposure → Bool
exposure_out_of_range e = group_out_of_range e.child || group_out_of_range e.adult || eqb (Z e) 0

-- What the constructor of an exposure answers.
abbrev pub exposure_answer : Exposure → Result Exposure Refusal
exposure_answer e = cond (exposure_out_of_range e) (Err Refusal.ExposureOutOfRange) (Ok e)

-- What such an answer says of the list of grounds.
abbrev pub exposure_checked : Result Exposure Refusal → Checked
exposure_checked (Ok e) = Ok tt
exposure_checked (Err refusal) = Err refusal

-- Kinds 0, 1; by ground 2 there is no other.
abbrev pub kind_coded : ℕ → Result Kind Refusal
kind_coded zero = Ok Kind.Risk
kind_coded (suc zero) = Ok Kind.Dose
kind_coded (suc (suc code)) = Err Refusal.CodeUnknown
