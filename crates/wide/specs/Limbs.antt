-- The six limbs that a number is held in, the highest first.
use Rattle.std.specs.Prelude.{ℕ, zero, suc, ◌+◌, ◌*◌, ◌/◌, ◌%◌, ◌^◌, ◌<◌, ◌≡◌}
use Rattle.std.specs.Prelude.{refl, List, [], ◌∷◌, length, reverse, get_or}
use Rattle.std.proofs.Common.{w32, Fits, drop, sym, ap, ap₂, subst, ◌∙◌, arith, drop-cons}
use lib.Seq.{drop-length}
use Rattle.wide.specs.Value.{value}

-- What is true of every `[u32; 6]`.
pub record SixLimbs (limbs : List ℕ) : Type 0 where
  pub six : length limbs ≡ 6
  pub each : (i : ℕ) → Fits w32 (get_or limbs i 0)

abbrev pub number : List ℕ → ℕ
number limbs = value (reverse limbs)

-- So many digits of 32 bits, the lowest first.
abbrev pub digits : ℕ → ℕ → List ℕ
digits zero n = []
digits (suc k) n = (n % 2 ^ 32) ∷ digits k (n / 2 ^ 32)

abbrev pub limbs_of : ℕ → List ℕ
limbs_of n = reverse (digits 6 n)

-- An array of six is the list of its elements.
abbrev pub listed : List ℕ → List ℕ
listed a = get_or a 0 0 ∷ get_or a 1 0 ∷ get_or a 2 0 ∷ get_or a 3 0 ∷ get_or a 4 0 ∷ get_or a 5 0 ∷ []

listed_from : (a : List ℕ) (i : ℕ) (rest : List ℕ) → i < length a → rest ≡ drop (suc i) a
    → get_or a i 0 ∷ rest ≡ drop i a
listed_from a i rest h e = ap (λ (l : List ℕ). get_or a i 0 ∷ l) e ∙ sym (drop-cons a i 0 h)

pub listed_same : (a : List ℕ) → length a ≡ 6 → listed a ≡ a
listed_same a h =
    listed_from a 0 _ (omega arith)
    (listed_from a 1 _ (omega arith)
    (listed_from a 2 _ (omega arith)
    (listed_from a 3 _ (omega arith)
    (listed_from a 4 _ (omega arith) (listed_from a 5 _ (omega arith) (sym (rw h at (drop-length a))))))))

-- A digit above a number gives itself and the number back.
lowest_back : (x v : ℕ) → x < 2 ^ 32 → (x + 2 ^ 32 * v) % 2 ^ 32 ≡ x
lowest_back x v h = omega arith

rest_back : (x v : ℕ) → x < 2 ^ 32 → (x + 2 ^ 32 * v) / 2 ^ 32 ≡ v
rest_back x v h = omega arith

digit_back : (k x : ℕ) (xs : List ℕ) → x < 2 ^ 32 → digits k (value xs) ≡ xs
    → digits (suc k) (value (x ∷ xs)) ≡ x ∷ xs
digit_back k x xs h e =
    ap₂ (λ (y : ℕ) (ys : List ℕ). y ∷ ys) (lowest_back x (value xs) h)
    (ap (digits k) (rest_back x (value xs) h) ∙ e)

-- So a number gives its limbs back.
pub limbs_of_number : (limbs : List ℕ) → SixLimbs limbs → limbs_of (number limbs) ≡ limbs
limbs_of_number limbs s =
    subst (λ (l : List ℕ). limbs_of (number l) ≡ l) (listed_same limbs s.six)
    (ap reverse
    (digit_back 5 (get_or limbs 5 0) _ (s.each 5).fits
    (digit_back 4 (get_or limbs 4 0) _ (s.each 4).fits
    (digit_back 3 (get_or limbs 3 0) _ (s.each 3).fits
    (digit_back 2 (get_or limbs 2 0) _ (s.each 2).fits
    (digit_back 1 (get_or limbs 1 0) _ (s.each 1).fits
    (digit_back 0 (get_or limbs 0 0) [] (s.each 0).fits refl)))))))
