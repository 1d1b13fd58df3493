-- The value of a list of limbs is linear: a list of sums has the sum of the values, and a list of multiples the
-- multiple. An array of six is the list of its six elements, so both hold of arrays that are read element by element.
use Rattle.std.proofs.Common.{◌≡◌, ℕ, ◌+◌, ◌*◌, List, [], ◌∷◌, length, get_or}
use Rattle.std.proofs.Common.{reverse, sym, refl, ap, ◌∙◌, ap₂, ◌<◌, arith}
use Rattle.wide.specs.Value.{value}
use Rattle.wide.specs.Limbs.{number, listed, listed_same}

abbrev pub sums : List ℕ → List ℕ → List ℕ
sums [] [] = []
sums [] (y ∷ ys) = y ∷ ys
sums (x ∷ xs) [] = x ∷ xs
sums (x ∷ xs) (y ∷ ys) = (x + y) ∷ sums xs ys

pub value_sums : (xs ys : List ℕ) → value (sums xs ys) ≡ value xs + value ys
value_sums [] [] = refl
value_sums [] (y ∷ ys) = omega arith
value_sums (x ∷ xs) [] = omega arith
value_sums (x ∷ xs) (y ∷ ys) = omega (arith, value_sums xs ys)

abbrev pub multiples : ℕ → List ℕ → List ℕ
multiples k [] = []
multiples k (x ∷ xs) = (x * k) ∷ multiples k xs

pub value_multiples : (k : ℕ) (xs : List ℕ) → value (multiples k xs) ≡ value xs * k
value_multiples k [] = omega arith
value_multiples k (x ∷ xs) = omega (arith, value_multiples k xs)

-- columns of sums are worth the sum
pub sum_columns : (a b s : List ℕ) → length a ≡ 6 → length b ≡ 6 → length s ≡ 6
    → ((k : ℕ) → k < 6 → get_or s k 0 ≡ get_or a k 0 + get_or b k 0) → number s ≡ number a + number b
sum_columns a b s ha hb hs e =
    ap number (sym (listed_same s hs))
    ∙ rw (
      e 0 (omega arith),
      e 1 (omega arith),
      e 2 (omega arith),
      e 3 (omega arith),
      e 4 (omega arith),
      e 5 (omega arith),
    )
    (value_sums (reverse (listed a)) (reverse (listed b)))
    ∙ ap₂ (λ (x y : List ℕ). number x + number y) (listed_same a ha) (listed_same b hb)

-- columns of multiples are worth the multiple
pub multiple_columns : (a s : List ℕ) (k : ℕ) → length a ≡ 6 → length s ≡ 6
    → ((i : ℕ) → i < 6 → get_or s i 0 ≡ get_or a i 0 * k) → number s ≡ number a * k
multiple_columns a s k ha hs e =
    ap number (sym (listed_same s hs))
    ∙ rw (
      e 0 (omega arith),
      e 1 (omega arith),
      e 2 (omega arith),
      e 3 (omega arith),
      e 4 (omega arith),
      e 5 (omega arith),
    )
    (value_multiples k (reverse (listed a)))
    ∙ ap (λ (x : List ℕ). number x * k) (listed_same a ha)
