-- The fewest decimal digits of a number below 2^64 are its `decimal`. Both take the last digit off and go on with the
-- quotient by ten, so they agree digit by digit; the fewest digits end where the quotient is below ten.
use Prim.Native.Nat.{ℕ, zero, suc, ◌+◌, ◌*◌, ◌/◌, ◌%◌, ◌-◌, ◌^◌, ◌≤◌, ◌<◌}
use mathlib.Core.Path.{◌≡◌, refl, ap}
use mathlib.Core.Bool.{Bool, true, false, cond}
use mathlib.Core.List.{List, [], ◌∷◌, ◌++◌}
use native.Mathlib.Nat.{pow-suc, one-le-pow}
use native.Mathlib.Omega.{arith}
use lib.Dec.{ltb}
use lib.ListN.{length, length-append}
use borrow.Author.Tests.{lt-ltb, le-ltb}
use Rattle.io.specs.Digits.{hex_digit_ascii, last_digits, IsDigitCount}
use Rattle.text.specs.Words.{most_digits, decimal_up_to, decimal}

glyph_of : (d : ℕ) → d < 10 → hex_digit_ascii d ≡ 48 + d
glyph_of d h = rw (lt-ltb d 10 h)

one_digit : (n : ℕ) → n < 10 → last_digits 10 1 n ≡ (48 + n) ∷ []
one_digit n h = let e : n % 10 ≡ n = omega arith in rw (e, glyph_of n h)

-- With more than one digit, the first is not zero.
spelled :
    (m j n : ℕ) → n < 10 ^ suc m → n < 10 ^ suc j → (0 < j → 10 ^ j ≤ n) → last_digits 10 (suc j) n ≡ decimal_up_to m n
spelled zero zero n u v w = one_digit n (omega arith)
spelled zero (suc j) n u v w = absurd (omega (arith, w (omega arith), pow-suc 10 j, one-le-pow j 10 (omega arith)))
spelled (suc m) zero n u v w = rw (lt-ltb n 10 (omega arith)) (one_digit n (omega arith))
spelled (suc m) (suc j) n u v w =
    let p : 10 ^ suc j ≡ 10 ^ j * 10 = pow-suc 10 j in
    let q : 10 ^ suc (suc j) ≡ 10 ^ suc j * 10 = pow-suc 10 (suc j) in
    let r : 10 ^ suc (suc m) ≡ 10 ^ suc m * 10 = pow-suc 10 (suc m) in
    let l : 10 ^ suc j ≤ n = w (omega arith) in
    let o : 1 ≤ 10 ^ j = one-le-pow j 10 (omega arith) in
    rw (le-ltb n 10 (omega arith))
    (rw (spelled m j (n / 10) (omega arith) (omega arith) (λ _. omega arith), glyph_of (n % 10) (omega arith)))

pub digits_decimal : (n k : ℕ) → n < 2 ^ 64 → IsDigitCount 10 1 n k → last_digits 10 k n ≡ decimal n
unfolding decimal
digits_decimal n zero h f = absurd (omega (arith, f.0))
digits_decimal n (suc j) h f =
    spelled 19 j n (omega arith) f.1
    (λ h. let e : suc j - 1 ≡ j = omega arith in rw e at (f.2 (omega arith)))

at_most_one_more :
    (m a b : ℕ) (front : List ℕ) → length front ≤ suc m → (t : Bool) →
    length (cond t (a ∷ []) (front ++ (b ∷ []))) ≤ suc (suc m)
at_most_one_more m a b front h true = omega arith
at_most_one_more m a b front h false = simp length-append (omega arith)

-- A number below a power of ten has no more digits than that has zeros; nor has any more digits than the definition
-- allows for.
up_to_at_most : (m k n : ℕ) → (k < m → n < 10 ^ suc k) → length (decimal_up_to m n) ≤ suc k
up_to_at_most zero k n h = omega arith
up_to_at_most (suc m) zero n h = rw (lt-ltb n 10 (omega (arith, h (omega arith)))) (omega arith)
up_to_at_most (suc m) (suc k) n h =
    let below : k < m → n / 10 < 10 ^ suc k = λ l. omega (arith, h (omega arith), pow-suc 10 (suc k)) in
    at_most_one_more k (48 + n) (48 + n % 10) (decimal_up_to m (n / 10)) (up_to_at_most m k (n / 10) below) (ltb n 10)

pub decimal_at_most : (n : ℕ) → length (decimal n) ≤ most_digits
unfolding decimal
decimal_at_most n = up_to_at_most 19 19 n (λ l. absurd (omega arith))

pub decimal_below : (k n : ℕ) → n < 10 ^ suc k → length (decimal n) ≤ suc k
unfolding decimal
decimal_below k n h = up_to_at_most 19 k n (λ _. h)

digits_long : (k n : ℕ) → length (last_digits 10 k n) ≡ k
digits_long zero n = refl
digits_long (suc k) n = simp length-append (omega (arith, digits_long k (n / 10)))

-- A number that is not zero has one digit more than the highest power of ten within it has zeros.
pub digits_counted : (n k : ℕ) → n < 2 ^ 64 → 10 ^ k ≤ n → n < 10 * 10 ^ k → length (decimal n) ≡ k + 1
digits_counted n k small from below =
    let p : 10 ^ suc k ≡ 10 ^ k * 10 = pow-suc 10 k in
    let e : suc k - 1 ≡ k = omega arith in
    let is = digits_decimal n (suc k) small (omega arith, omega arith, λ _. rw e from) in
    omega (arith, digits_long (suc k) n, ap length is)

pub zero_counted : length (decimal 0) ≡ 1
unfolding decimal
zero_counted = refl

-- What the counting of a number's digits reads.
pub ruleset counting = (digits_counted, zero_counted, decimal_at_most)
