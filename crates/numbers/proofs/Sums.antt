-- Laws of a sum below n: it keeps order and equality, and a factor or a bound of each term is one of the sum.
-- Each goes term by term, from the first on.
use Prim.Native.Nat.{ℕ, zero, suc, ◌+◌, ◌*◌, ◌≤◌, ◌<◌}
use native.Mathlib.Nat.{le_antisymm, le_of_eq}
use native.Mathlib.Omega.{arith}
use mathlib.Core.Path.{◌≡◌, refl, sym}
use Rattle.numbers.specs.Sums.{sum_below}

pub sum_mono : (n : ℕ) {f g : ℕ → ℕ} → ((i : ℕ) → i < n → f i ≤ g i) → sum_below n f ≤ sum_below n g
unfolding sum_below
sum_mono zero each = omega arith
sum_mono (suc n) each = omega (arith, sum_mono n (λ i l. each i (omega arith)), each n (omega arith))

pub sum_add : (n : ℕ) (f g : ℕ → ℕ) → sum_below n (λ i. f i + g i) ≡ sum_below n f + sum_below n g
unfolding sum_below
sum_add zero f g = refl
sum_add (suc n) f g = omega (arith, sum_add n f g)

pub sum_scale : (n c : ℕ) (f : ℕ → ℕ) → sum_below n (λ i. f i * c) ≡ sum_below n f * c
unfolding sum_below
sum_scale zero c f = omega arith
sum_scale (suc n) c f = omega (arith, sum_scale n c f)

pub sum_same : (n : ℕ) {f g : ℕ → ℕ} → ((i : ℕ) → i < n → f i ≡ g i) → sum_below n f ≡ sum_below n g
sum_same n each = le_antisymm (sum_mono n (λ i l. le_of_eq (each i l))) (sum_mono n (λ i l. le_of_eq (sym (each i l))))
