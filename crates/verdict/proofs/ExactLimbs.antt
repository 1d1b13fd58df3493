-- A multiple in limbs is exact modulo 2^192, so it is exact where the product of the bounds is below that.
use Prim.Native.Nat.{ℕ, ◌*◌, ◌%◌, ◌≤◌, ◌<◌}
use native.Mathlib.Nat.{lt_of_le_of_lt, mul-le-mul}
use mathlib.Core.Path.{◌≡◌}
use Rattle.wide.specs.Value.{modulus}
use Rattle.wide.proofs.Results.{exact}

pub exact_multiple : {p a k A K : ℕ} → p ≡ a * k % modulus → a ≤ A → k ≤ K → A * K < modulus → p ≡ a * k
exact_multiple e h l fits = exact e (lt_of_le_of_lt (mul-le-mul h l) fits)
