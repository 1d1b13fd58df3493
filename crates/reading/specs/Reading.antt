-- From a reading to the concentration C in whole mBq/m³ (document 01, "Reading"), and grounds 7 and 8.
use Rattle.std.specs.Prelude.{ℕ, zero, suc, ◌+◌, ◌-◌, ◌*◌, ◌/◌, ◌<◌, ◌≤◌, Bool}
use Rattle.std.specs.Prelude.{true, cond, ◌||◌, ltb, Float, Result, Ok, Err}
use Rattle.refusals.specs.Grounds.{Checked}
use Rattle.std.specs.Float.{nan, inf, fin, binary64}
use Rattle.std.specs.Float.Ieee.{up, down, of_bits}
use Rattle.refusals.specs.declared.Refusal.{Refusal}
use Rattle.reading.specs.declared.amounts.Amount.{Amount}
use Rattle.reading.specs.declared.amounts.Reading.{Reading}
use Rattle.reading.specs.declared.amounts.Unit.{Unit}
use Rattle.reading.specs.declared.amounts.Medium.{Medium}
use Rattle.reading.specs.declared.error.ReadingError.{ReadingError}

-- mBq/m³ in one of each unit: 1 pCi/L = 37 Bq/m³ (source 002).
abbrev pub per_picocurie_per_litre : ℕ
per_picocurie_per_litre = 37000

abbrev pub per_picocurie_per_cubic_metre : ℕ
per_picocurie_per_cubic_metre = 37

abbrev pub per_becquerel_per_cubic_metre : ℕ
per_becquerel_per_cubic_metre = 1000

abbrev pub per_unit : Amount → ℕ
per_unit (Amount.PicocuriesPerLitre x) = per_picocurie_per_litre
per_unit (Amount.PicocuriesPerCubicMetre x) = per_picocurie_per_cubic_metre
per_unit (Amount.BecquerelsPerCubicMetre x) = per_becquerel_per_cubic_metre

abbrev pub figure : Amount → Float
figure (Amount.PicocuriesPerLitre x) = x
figure (Amount.PicocuriesPerCubicMetre x) = x
figure (Amount.BecquerelsPerCubicMetre x) = x

-- Units 0, 1, 2; by ground 2 there is no other.
abbrev pub unit_coded : ℕ → Result Unit Refusal
unit_coded zero = Ok Unit.PicocuriesPerLitre
unit_coded (suc zero) = Ok Unit.PicocuriesPerCubicMetre
unit_coded (suc (suc zero)) = Ok Unit.BecquerelsPerCubicMetre
unit_coded (suc (suc (suc code))) = Err Refusal.CodeUnknown

-- The same where any other code is taken as 2.
abbrev pub unit_of : ℕ → Unit
unit_of zero = Unit.PicocuriesPerLitre
unit_of (suc zero) = Unit.PicocuriesPerCubicMetre
unit_of (suc (suc code)) = Unit.BecquerelsPerCubicMetre

-- A figure in a unit, and in the unit of a code.
abbrev pub amount_in : Unit → Float → Amount
amount_in Unit.PicocuriesPerLitre x = Amount.PicocuriesPerLitre x
amount_in Unit.PicocuriesPerCubicMetre x = Amount.PicocuriesPerCubicMetre x
amount_in Unit.BecquerelsPerCubicMetre x = Amount.BecquerelsPerCubicMetre x

abbrev pub amount_of : ℕ → Float → Amount
amount_of code x = amount_in (unit_of code) x

-- 7. It has its sign bit set (minus zero too), is infinite or is not a number.
abbrev pub unusable : Float → Bool
unusable nan = true
unusable (inf negative) = true
unusable (fin negative m e) = negative

-- The float that a pattern of 64 bits becomes: an unusable pattern becomes 0, since a NaN's can become no f64.
abbrev pub float_of : ℕ → Float
float_of bits = cond (unusable (of_bits binary64 bits)) (of_bits binary64 0) (of_bits binary64 bits)

-- The magnitude of a finite float is the fraction m·2^e: numerator over denominator.
abbrev pub numerator_of : Float → ℕ
numerator_of nan = 0
numerator_of (inf negative) = 0
numerator_of (fin negative m e) = m * up e

abbrev pub denominator_of : Float → ℕ
denominator_of nan = 1
denominator_of (inf negative) = 1
denominator_of (fin negative m e) = down e

-- An amount's exact value in mBq/m³: a whole numerator over a whole denominator.
abbrev pub value_numerator : Amount → ℕ
value_numerator amount = numerator_of (figure amount) * per_unit amount

abbrev pub value_denominator : Amount → ℕ
value_denominator amount = denominator_of (figure amount)

-- a / b rounded up, for b above 0.
abbrev pub rounded_up : ℕ → ℕ → ℕ
rounded_up a b = (a + (b - 1)) / b

-- q is the smallest whole number not below a / b.
pub record SmallestNotBelow (a b q : ℕ) : Type 0 where
  pub not_below : a ≤ q * b
  pub one_less_is_below : (p : ℕ) → p < q → p * b < a

-- The smallest whole number of mBq/m³ not below the amount's exact value.
unfoldable pub whole : Amount → ℕ
whole amount = rounded_up (value_numerator amount) (value_denominator amount)

-- The largest concentration, in mBq/m³.
abbrev pub max_concentration : ℕ
max_concentration = 4000000000

-- What the conversion of one amount answers.
abbrev pub whole_answer : Amount → Result ℕ ReadingError
whole_answer amount =
    cond (unusable (figure amount)) (Err ReadingError.Unusable)
    (cond (ltb max_concentration (whole amount)) (Err ReadingError.TooLarge) (Ok (whole amount)))

-- Media 0, 1, 2; by ground 2 there is no other.
abbrev pub medium_coded : ℕ → Result Medium Refusal
medium_coded zero = Ok Medium.IndoorAir
medium_coded (suc zero) = Ok Medium.SoilGas
medium_coded (suc (suc zero)) = Ok Medium.Groundwater
medium_coded (suc (suc (suc code))) = Err Refusal.CodeUnknown

-- The same where any other code is taken as 2.
abbrev pub medium_of : ℕ → Medium
medium_of zero = Medium.IndoorAir
medium_of (suc zero) = Medium.SoilGas
medium_of (suc (suc code)) = Medium.Groundwater

-- The whole attenuation: AF is in millionths.
abbrev pub whole_attenuation : ℕ
whole_attenuation = 1000000

-- Henry's constant of source 001, 4.34, in hundredths.
abbrev pub henry_constant : ℕ
henry_constant = 434

-- What Henry's constant times AF is in: hundredths of millionths.
abbrev pub whole_henry_attenuation : ℕ
whole_henry_attenuation = 100000000

-- Indoor air: as read. Soil gas: times AF / 1,000,000, rounded up. Groundwater: times 434 × AF /
-- 100,000,000, rounded up.
abbrev pub through_medium : Medium → ℕ → ℕ → ℕ
through_medium Medium.IndoorAir af amount = amount
through_medium Medium.SoilGas af amount = rounded_up (amount * af) whole_attenuation
through_medium Medium.Groundwater af amount = rounded_up (amount * (henry_constant * af)) whole_henry_attenuation

-- The two parts added, in unit `unit`.
abbrev pub total : Unit → Reading → ℕ
total unit reading = whole (amount_in unit reading.value) + whole (amount_in unit reading.uncertainty)

-- C.
abbrev pub concentration : Unit → Medium → ℕ → Reading → ℕ
concentration unit medium af reading = through_medium medium af (total unit reading)

unfoldable pub reading_unusable : Reading → Bool
reading_unusable reading = unusable reading.value || unusable reading.uncertainty

-- 8. Either converted part, their sum or C exceeds 4,000,000,000.
unfoldable pub concentration_too_high : Unit → Medium → ℕ → Reading → Bool
concentration_too_high unit medium af reading =
    ltb max_concentration (whole (amount_in unit reading.value))
    || ltb max_concentration (whole (amount_in unit reading.uncertainty))
    || ltb max_concentration (total unit reading)
    || ltb max_concentration (concentration unit medium af reading)

-- What the intake of a reading answers: ground 7, ground 8, or C.
abbrev pub intake_answer : Unit → Medium → ℕ → Reading → Result ℕ ReadingError
intake_answer unit medium af reading =
    cond (reading_unusable reading) (Err ReadingError.Unusable)
    (cond (concentration_too_high unit medium af reading) (Err ReadingError.TooLarge)
    (Ok (concentration unit medium af reading)))

-- Which ground an error is.
abbrev pub refusal_of : ReadingError → Refusal
refusal_of ReadingError.Unusable = Refusal.ReadingUnusable
refusal_of ReadingError.TooLarge = Refusal.ConcentrationTooHigh

-- What the conversion of one amount, or the intake of a reading, says of the list of grounds.
abbrev pub intake_checked : Result ℕ ReadingError → Checked
intake_checked (Ok c) = Ok tt
intake_checked (Err error) = Err (refusal_of error)
