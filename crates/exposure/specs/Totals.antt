-- X and Y of a kind, over both groups (document 01, "Verdict"; for dose document 02, R-2).
use Rattle.std.specs.Prelude.{ℕ, ◌+◌, ◌*◌}
use Rattle.rounding.specs.Nearest.{nearest}
use Rattle.exposure.specs.declared.groups.Group.{Group}
use Rattle.exposure.specs.declared.groups.Exposure.{Exposure}
use Rattle.exposure.specs.declared.kind.Kind.{Kind}
use Rattle.exposure.specs.declared.totals.Totals.{Totals}

-- Z, the sum of ED.
abbrev pub Z : Exposure → ℕ
Z e = e.child.years + e.adult.years

-- For dose a group's share of the years: 100 × ED / Z rounded to the nearest whole, halves up.
abbrev pub share : ℕ → ℕ → ℕ
share ED Z = nearest (100 * ED) Z

-- What is counted of a group's years: for risk ED itself, for dose that share.
abbrev pub duration : Kind → ℕ → ℕ → ℕ
duration Kind.Risk ED Z = ED
duration Kind.Dose ED Z = share ED Z

abbrev pub child_duration : Kind → Exposure → ℕ
child_duration kind e = duration kind e.child.years (Z e)

abbrev pub adult_duration : Kind → Exposure → ℕ
adult_duration kind e = duration kind e.adult.years (Z e)

-- A group's EF·ED·ET, and its EF·ED·ET·IRA, with what is counted in ED's place.
abbrev pub time_of : Group → ℕ → ℕ
time_of g ED = g.days * ED * g.quarter_hours

abbrev pub air_of : Group → ℕ → ℕ
air_of g ED = g.days * ED * g.quarter_hours * g.breathing

-- X, the sum of EF·ED·ET·IRA.
abbrev pub X : Kind → Exposure → ℕ
X kind e = air_of e.child (child_duration kind e) + air_of e.adult (adult_duration kind e)

-- Y, the sum of EF·ED·ET.
abbrev pub Y : Kind → Exposure → ℕ
Y kind e = time_of e.child (child_duration kind e) + time_of e.adult (adult_duration kind e)

-- Both.
abbrev pub totals_of : Kind → Exposure → Totals
totals_of kind e = record { x = X kind e; y = Y kind e }
