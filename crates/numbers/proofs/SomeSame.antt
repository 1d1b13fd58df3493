-- Two tests that agree on every number below n agree on whether some number below n passes.
use Prim.Native.Nat.{ℕ, zero, suc, ◌<◌}
use native.Mathlib.Omega.{arith}
use mathlib.Core.Path.{◌≡◌, refl, ap₂}
use mathlib.Core.Bool.{Bool, ◌||◌}
use Rattle.numbers.specs.Tests.{some_below}

pub some_same : (n : ℕ) {p q : ℕ → Bool} → ((k : ℕ) → k < n → p k ≡ q k) → some_below n p ≡ some_below n q
unfolding some_below
some_same zero each = refl
some_same (suc n) each = ap₂ (λ a b. a || b) (some_same n (λ k l. each k (omega arith))) (each n (omega arith))
