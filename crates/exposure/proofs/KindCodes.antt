-- Which codes of a kind are unknown.
use Prim.Native.Nat.{ℕ, zero, suc}
use native.Mathlib.Omega.{arith}
use mathlib.Core.Path.{◌≡◌, refl, sym}
use lib.Dec.{ltb}
use borrow.Author.Tests.{lt-ltb}
use Rattle.std.specs.Result.{is_err}
use Rattle.exposure.specs.Exposure.{kind_coded}

pub kind_unknown : (code : ℕ) → is_err (kind_coded code) ≡ ltb 1 code
kind_unknown zero = refl
kind_unknown (suc zero) = refl
kind_unknown (suc (suc code)) = sym (lt-ltb 1 (suc (suc code)) (omega arith))
