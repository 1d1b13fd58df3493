-- What an unknown code is taken as, and which codes are unknown. In every unit the figure is as it was.
use Prim.Native.Nat.{ℕ, zero, suc}
use mathlib.Core.Path.{◌≡◌, refl, sym}
use native.Mathlib.Omega.{arith}
use borrow.Author.Tests.{lt-ltb}
use lib.Dec.{ltb}
use lib.Ieee.{Float}
use Rattle.std.specs.Result.{is_err, result_unwrap_or}
use Rattle.reading.specs.declared.amounts.Medium.{Medium}
use Rattle.reading.specs.declared.amounts.Unit.{Unit}
use Rattle.reading.specs.Reading.{figure, amount_in, unit_coded, unit_of, medium_coded, medium_of}

pub unit_taken : (code : ℕ) → result_unwrap_or (unit_coded code) Unit.BecquerelsPerCubicMetre ≡ unit_of code
unit_taken zero = refl
unit_taken (suc zero) = refl
unit_taken (suc (suc zero)) = refl
unit_taken (suc (suc (suc code))) = refl

pub medium_taken : (code : ℕ) → result_unwrap_or (medium_coded code) Medium.Groundwater ≡ medium_of code
medium_taken zero = refl
medium_taken (suc zero) = refl
medium_taken (suc (suc zero)) = refl
medium_taken (suc (suc (suc code))) = refl

pub unit_unknown : (code : ℕ) → is_err (unit_coded code) ≡ ltb 2 code
unit_unknown zero = refl
unit_unknown (suc zero) = refl
unit_unknown (suc (suc zero)) = refl
unit_unknown (suc (suc (suc code))) = sym (lt-ltb 2 (suc (suc (suc code))) (omega arith))

pub medium_unknown : (code : ℕ) → is_err (medium_coded code) ≡ ltb 2 code
medium_unknown zero = refl
medium_unknown (suc zero) = refl
medium_unknown (suc (suc zero)) = refl
medium_unknown (suc (suc (suc code))) = sym (lt-ltb 2 (suc (suc (suc code))) (omega arith))

pub figure_in_unit : (unit : Unit) (x : Float) → figure (amount_in unit x) ≡ x
figure_in_unit Unit.PicocuriesPerLitre x = refl
figure_in_unit Unit.PicocuriesPerCubicMetre x = refl
figure_in_unit Unit.BecquerelsPerCubicMetre x = refl
