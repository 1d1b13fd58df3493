-- What a table writes is what is read back at its places, whatever bytes stand around it. Reading takes the digits one
-- by one, and each is 48 and the digit, so both go through the same quotients by ten.
use Rattle.std.proofs.Common.{◌≡◌, ℕ, zero, suc, ◌+◌, ◌-◌, ◌*◌, ◌/◌, ◌%◌, ◌^◌, ◌<◌, ◌≤◌, Bool, true, false}
use Rattle.std.proofs.Common.{List, [], ◌∷◌, ◌++◌, length, get_or, refl, sym, ap, ap₂, ◌∙◌, append_assoc, arith}
use Rattle.std.proofs.Common.{length-append, get_or-append-add, add-one, add_assoc, add-zero, ltb}
use lib.ListN.{get_or-append}
use lib.Seq.{get_or-append_seam}
use native.Mathlib.Nat.{zero-add, pow-suc, div-div-eq-div-mul}
use Rattle.text.specs.Words.{decimal_up_to, decimal}
use Rattle.entry.specs.declared.scaling.Share.{Share}
use mathlib.Core.Logic.{◌⊎◌, inl, inr}
use Rattle.entry.specs.Promises.{Printable}
use Rattle.entry.specs.Form.{form}
use Rattle.entry.proofs.Promised.{form_nine}
use Rattle.printed.specs.Places.{number_at, share_at, of_form}
use Rattle.printed.proofs.OfForm.{is_one}

-- A word's bytes, wherever it stands.
byte_of :
    (xs word ys : List ℕ) (i : ℕ) → i < length word → get_or (xs ++ word ++ ys) (length xs + i) 0 ≡ get_or word i 0
byte_of xs word ys i within =
    ap (λ l. get_or l (length xs + i) 0) (append_assoc xs word ys)
    ∙ get_or-append-add xs (word ++ ys) i 0
    ∙ get_or-append word ys 0 i within

number_of :
    (xs word ys : List ℕ) (i k : ℕ) → i + k ≤ length word →
    number_at (xs ++ word ++ ys) (length xs + i) k ≡ number_at word i k
unfolding number_at
number_of xs word ys i zero within = refl
number_of xs word ys i (suc k) within =
    ap₂ (λ n d. n * 10 + (d - 48)) (number_of xs word ys i k (omega arith))
    (ap (λ at. get_or (xs ++ word ++ ys) at 0) (add_assoc (length xs) i k) ∙ byte_of xs word ys (i + k) (omega arith))

-- All of a word.
whole_of :
    (xs word ys : List ℕ) → number_at (xs ++ word ++ ys) (length xs) (length word) ≡ number_at word 0 (length word)
whole_of xs word ys =
    ap (λ at. number_at (xs ++ word ++ ys) at (length word)) (sym (add-zero (length xs)))
    ∙ number_of xs word ys 0 (length word) (omega arith)

one_digit : (n : ℕ) → number_at ((48 + n) ∷ []) 0 1 ≡ n
unfolding number_at
one_digit n = omega arith

next_digit :
    (front : List ℕ) (d : ℕ) →
    number_at (front ++ (48 + d) ∷ []) 0 (length (front ++ (48 + d) ∷ [])) ≡ number_at front 0 (length front) * 10 + d
unfolding number_at
next_digit front d =
    let long : length (front ++ (48 + d) ∷ []) ≡ suc (length front) =
    length-append front ((48 + d) ∷ []) ∙ add-one (length front)
    in
    let last : get_or (front ++ (48 + d) ∷ []) (0 + length front) 0 ≡ 48 + d =
    rw zero-add (get_or-append_seam front (48 + d) [] 0)
    in
    rw (long, whole_of [] front ((48 + d) ∷ []), last) (omega arith)

up_to_back : (m n : ℕ) → n < 10 ^ suc m → number_at (decimal_up_to m n) 0 (length (decimal_up_to m n)) ≡ n
up_to_back zero n small = one_digit n
up_to_back (suc m) n small =
    by_size (ltb n 10) refl (up_to_back m (n / 10) (omega (arith, pow-suc 10 (suc m))))
  where
    by_size :
        (t : Bool) → ltb n 10 ≡ t →
        number_at (decimal_up_to m (n / 10)) 0 (length (decimal_up_to m (n / 10))) ≡ n / 10 →
        number_at (decimal_up_to (suc m) n) 0 (length (decimal_up_to (suc m) n)) ≡ n
    by_size true is tenth = rw is (one_digit n)
    by_size false is tenth = rw is (next_digit (decimal_up_to m (n / 10)) (n % 10) ∙ omega arith)

pub decimal_back : (v : ℕ) → v < 10 ^ 20 → number_at (decimal v) 0 (length (decimal v)) ≡ v
unfolding decimal
decimal_back v small = up_to_back 19 v small

pub number_back :
    (xs ys : List ℕ) (v : ℕ) → v < 10 ^ 20 →
    number_at (xs ++ decimal v ++ ys) (length xs) (length (decimal v)) ≡ v
number_back xs ys v small = whole_of xs (decimal v) ys ∙ decimal_back v small

-- The nine characters of a number.
share_of_word :
    (xs word ys : List ℕ) → length word ≡ 9 → share_at (xs ++ word ++ ys) (length xs) ≡ share_at word 0
share_of_word xs word ys nine =
    let first = ap (λ at. number_at (xs ++ word ++ ys) at 1) (sym (add-zero (length xs))) in
    rw (
      first,
      number_of xs word ys 0 1 (omega arith),
      number_of xs word ys 2 3 (omega arith),
      number_of xs word ys 7 2 (omega arith),
    ) refl

-- Four digits of a number below 10,000 and two of one below 100.
four_digits : (d : ℕ) → d ≤ 9999 → d / 1000 % 10 * 1000 + (d / 100 % 10 * 100 + d / 10 % 10 * 10 + d % 10) ≡ d
four_digits d small =
    let hundreds : d / 100 ≡ d / 10 / 10 = sym (div-div-eq-div-mul d 10 10) in
    let thousands : d / 1000 ≡ d / 100 / 10 = sym (div-div-eq-div-mul d 100 10) in
    omega arith

same_share :
    {a b c d : ℕ} → a ≡ b → c ≡ d →
    ◌≡◌ {A = Share} (record { thousandths = a; exponent = c }) (record { thousandths = b; exponent = d })
same_share p q i = record { thousandths = p i; exponent = q i }

form_back : (d e : ℕ) → d ≤ 9999 → e ≤ 99 → share_at (form d e) 0 ≡ record { thousandths = d; exponent = e }
unfolding number_at
form_back d zero small few = same_share (omega (arith, four_digits d small)) (omega arith)
form_back d (suc e) small few = same_share (omega (arith, four_digits d small)) (omega arith)

-- Zero or not, a number of the form has four digits at most, and two of its exponent.
digits_of_form : (share : Share) → of_form share ≡ true → (share.thousandths ≤ 9999) × (share.exponent ≤ 99)
digits_of_form share holds = few (is_one share holds)
  where
    few :
        ((share.thousandths ≡ 0) × (share.exponent ≡ 0)) ⊎ Printable share.thousandths share.exponent →
        (share.thousandths ≤ 9999) × (share.exponent ≤ 99)
    few (inl none) = (omega (arith, none.0), omega (arith, none.1))
    few (inr number) = (number.four_digits, number.two_digits)

pub four_at_most : (share : Share) → of_form share ≡ true → share.thousandths ≤ 9999
four_at_most share holds = (digits_of_form share holds).0

pub share_back :
    (xs ys : List ℕ) (share : Share) → of_form share ≡ true →
    share_at (xs ++ form share.thousandths share.exponent ++ ys) (length xs) ≡ share
share_back xs ys share holds =
    let digits = digits_of_form share holds in
    share_of_word xs (form share.thousandths share.exponent) ys (form_nine share.thousandths share.exponent)
    ∙ form_back share.thousandths share.exponent digits.0 digits.1
