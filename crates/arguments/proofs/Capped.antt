-- A number that is cut to the highest after each digit comes out as if it were cut once, at the end.
use Rattle.std.proofs.Common.{◌≡◌, ℕ, suc, ◌+◌, ◌-◌, ◌*◌, ◌<◌, ◌≤◌, ◌≢◌, true, min, List, []}
use Rattle.std.proofs.Common.{◌∷◌, Some, length, get_or, drop, arith, refl, add-one, drop-cons}
use Rattle.std.proofs.lemmas.Bool.Decides.{nat_tests}
use Rattle.arguments.specs.Digits.{written, highest, all_digits, is_digit, number_written}

same_when_cut : (n m : ℕ) (word : List ℕ) → min n highest ≡ min m highest →
    min (written n word) highest ≡ min (written m word) highest
same_when_cut n m [] e = e
same_when_cut n m (byte ∷ word) e = same_when_cut (n * 10 + (byte - 48)) (m * 10 + (byte - 48)) word (omega arith)

pub value_passed :
    (word : List ℕ) (i n m : ℕ) → i < length word → m ≡ min (n * 10 + (get_or word i 0 - 48)) highest →
    min (written n (drop i word)) highest ≡ min (written m (drop (i + 1) word)) highest
value_passed word i n m l e =
    rw (drop-cons word i 0, add-one)
    (same_when_cut (n * 10 + (get_or word i 0 - 48)) m (drop (suc i) word) (omega arith))

digit_is : (byte : ℕ) → 48 ≤ byte → byte ≤ 57 → is_digit byte ≡ true
digit_is byte low high = grind (arith, nat_tests)

pub digit_passed :
    (word : List ℕ) (i : ℕ) → i < length word → 48 ≤ get_or word i 0 → get_or word i 0 ≤ 57 →
    all_digits (drop i word) ≡ all_digits (drop (i + 1) word)
digit_passed word i l low high = rw (drop-cons word i 0, add-one, digit_is (get_or word i 0) low high) refl

pub all_written :
    (word : List ℕ) (number : ℕ) → length word ≢ 0 → all_digits word ≡ true → min (written 0 word) highest ≡ number →
    number_written word ≡ Some number
all_written [] number some all e = absurd (some refl)
all_written (byte ∷ word) number some all e = rw (all, e) refl
