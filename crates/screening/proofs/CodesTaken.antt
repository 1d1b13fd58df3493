-- The codes of a job: what they are taken as, and which are unknown.
use Prim.Native.Nat.{ℕ, zero, suc}
use native.Mathlib.Omega.{arith}
use mathlib.Core.Path.{◌≡◌, refl, sym}
use lib.Dec.{eqb}
use borrow.Author.Tests.{ne_eqb}
use denote.Enum.Bare.{sameb}
use Rattle.std.specs.Result.{result_unwrap_or}
use Rattle.exposure.specs.declared.kind.Kind.{Kind}
use Rattle.exposure.specs.Exposure.{kind_coded}
use Rattle.exposure.proofs.KindCodes.{kind_unknown}
use Rattle.reading.specs.contracts.amounts.Medium.{the_type}
use Rattle.reading.specs.declared.amounts.Medium.{Medium}
use Rattle.reading.specs.Reading.{medium_of}
use Rattle.reading.proofs.ThreeCodes.{unit_unknown, medium_unknown}
use Rattle.screening.specs.Job.{kind_of}

pub kind_taken : (code : ℕ) → result_unwrap_or (kind_coded code) Kind.Dose ≡ kind_of code
kind_taken zero = refl
kind_taken (suc zero) = refl
kind_taken (suc (suc code)) = refl

pub indoor : (code : ℕ) → sameb the_type (medium_of code) Medium.IndoorAir ≡ eqb code 0
indoor zero = refl
indoor (suc zero) = refl
indoor (suc (suc code)) = sym (ne_eqb (suc (suc code)) 0 (λ e. omega arith))

-- What ground 2 reads of the codes.
pub ruleset unknown = (kind_unknown, medium_unknown, unit_unknown)
