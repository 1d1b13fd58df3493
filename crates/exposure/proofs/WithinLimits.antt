-- What the limits on an exposure say of its numbers: a disjunction is false where each of its tests is, and then each
-- number is at most its limit.
use Prim.Native.Nat.{ℕ, ◌+◌, ◌≤◌, ◌<◌}
use mathlib.Core.Path.{◌≡◌}
use mathlib.Core.Bool.{false, ◌||◌}
use native.Mathlib.Omega.{arith}
use borrow.Author.Tests.{ltb-false, eqb-false}
use lib.Dec.{ltb, eqb}
use Rattle.refusals.proofs.FirstMet.{neither}
use Rattle.exposure.specs.declared.groups.Group.{Group}
use Rattle.exposure.specs.declared.groups.Exposure.{Exposure}
use Rattle.exposure.specs.Totals.{Z}
use Rattle.exposure.specs.Exposure.{max_days, max_years, max_quarter_hours, max_breathing}
use Rattle.exposure.specs.Exposure.{group_out_of_range, exposure_out_of_range}

pub record GroupWithin (g : Group) : Type 0 where
  pub days : g.days ≤ max_days
  pub years : g.years ≤ max_years
  pub quarters : g.quarter_hours ≤ max_quarter_hours
  pub breathing : g.breathing ≤ max_breathing

pub group_within : (g : Group) → group_out_of_range g ≡ false → GroupWithin g
group_within g e =
    let three =
    neither (ltb max_days g.days || ltb max_years g.years || ltb max_quarter_hours g.quarter_hours)
    (ltb max_breathing g.breathing) e
    in
    let two = neither (ltb max_days g.days || ltb max_years g.years) (ltb max_quarter_hours g.quarter_hours) three.0 in
    let one = neither (ltb max_days g.days) (ltb max_years g.years) two.0 in
    record {
      days = ltb-false max_days g.days one.0;
      years = ltb-false max_years g.years one.1;
      quarters = ltb-false max_quarter_hours g.quarter_hours two.1;
      breathing = ltb-false max_breathing g.breathing three.1;
    }

pub record ExposureWithin (e : Exposure) : Type 0 where
  pub child : group_out_of_range e.child ≡ false
  pub adult : group_out_of_range e.adult ≡ false
  pub some_years : Z e ≡ 0 → ⊥

pub exposure_within : (e : Exposure) → exposure_out_of_range e ≡ false → ExposureWithin e
unfolding exposure_out_of_range
exposure_within e h =
    let groups = neither (group_out_of_range e.child || group_out_of_range e.adult) (eqb (Z e) 0) h in
    let each = neither (group_out_of_range e.child) (group_out_of_range e.adult) groups.0 in
    record { child = each.0; adult = each.1; some_years = eqb-false (Z e) 0 groups.1 }

-- The years of one group, beside those of both.
abbrev YearsWithin : ℕ → ℕ → Type 0
YearsWithin ED Z = (ED ≤ max_years) × (ED ≤ Z) × (0 < Z) × (Z ≤ max_years + max_years)

module _ (e : Exposure) (accepted : exposure_out_of_range e ≡ false) where
  within : ExposureWithin e
  within = exposure_within e accepted

  pub child_accepted : group_out_of_range e.child ≡ false
  child_accepted = within.child

  pub adult_accepted : group_out_of_range e.adult ≡ false
  adult_accepted = within.adult

  child : e.child.years ≤ max_years
  child = (group_within e.child within.child).years

  adult : e.adult.years ≤ max_years
  adult = (group_within e.adult within.adult).years

  pub child_years : YearsWithin e.child.years (Z e)
  child_years = (child, omega arith, omega (arith, within.some_years), omega (arith, child, adult))

  pub adult_years : YearsWithin e.adult.years (Z e)
  adult_years = (adult, omega arith, omega (arith, within.some_years), omega (arith, child, adult))

-- What a function that requires the limits passes on to the functions that it calls.
pub ruleset within_limits = (child_accepted, adult_accepted, child_years, adult_years)
