-- A number's decimal, four digits at a time: it is that of the number's ten thousandths and four digits more, until
-- there are no ten thousandths, and then it is four digits without the zeros they begin with.
use Prim.Native.Nat.{ℕ, zero, suc, ◌+◌, ◌*◌, ◌/◌, ◌%◌, ◌-◌, ◌^◌, ◌≤◌, ◌<◌}
use mathlib.Core.Path.{◌≡◌, refl, sym, ap, ◌∙◌}
use mathlib.Core.Bool.{Bool, true, false, cond}
use mathlib.Core.List.{List, [], ◌∷◌, ◌++◌, append_assoc, append-nil}
use native.Mathlib.Nat.{pow-suc, one-le-pow, div-one, div-le_self, div-div-eq-div-mul}
use native.Mathlib.Omega.{arith}
use lib.Dec.{ltb}
use lib.ListN.{length, drop, length-append}
use borrow.Author.Tests.{lt-ltb, le-ltb, ltb-true}
use Rattle.std.proofs.lemmas.List.{drop_at}
use Rattle.text.specs.Words.{decimal_up_to, decimal}
use Rattle.text.proofs.Digits.{decimal_below}
use Rattle.lines.specs.Digits.{four_digits}

-- So many last digits, with zeros before the number.
abbrev last : ℕ → ℕ → List ℕ
last zero n = []
last (suc m) n = last m (n / 10) ++ ((48 + n % 10) ∷ [])

last_four : (n : ℕ) → last 4 n ≡ four_digits (n % 10000)
last_four n =
    let a : n / 10 / 10 / 10 % 10 ≡ n % 10000 / 1000 % 10 = omega arith in
    let b : n / 10 / 10 % 10 ≡ n % 10000 / 100 % 10 = omega arith in
    let c : n / 10 % 10 ≡ n % 10000 / 10 % 10 = omega arith in
    let d : n % 10 ≡ n % 10000 % 10 = omega arith in
    cc

-- Room for more digits than a number has changes nothing.
enough : (m k n : ℕ) → m ≤ k → n < 10 ^ suc m → decimal_up_to k n ≡ decimal_up_to m n
enough zero zero n l h = refl
enough zero (suc k) n l h = rw (lt-ltb n 10 (omega arith)) refl
enough (suc m) zero n l h = absurd (omega arith)
enough (suc m) (suc k) n l h = rw (enough m k (n / 10) (omega arith) (omega (arith, pow-suc 10 (suc m)))) refl

-- All digits but the last ones are those of the quotient.
apart : (k j n : ℕ) → n < 10 ^ suc k → 10 ^ j ≤ n → decimal_up_to k n ≡ decimal_up_to k (n / 10 ^ j) ++ last j n
apart k zero n s h = rw (append-nil, div-one) refl
apart zero (suc j) n s h = absurd (omega (arith, pow-suc 10 j, one-le-pow j 10 (omega arith)))
apart (suc k) (suc j) n s h =
    let p : 10 ^ suc (suc k) ≡ 10 ^ suc k * 10 = pow-suc 10 (suc k) in
    let q : 10 ^ suc j ≡ 10 * 10 ^ j = omega (arith, pow-suc 10 j) in
    let o : 1 ≤ 10 ^ j = one-le-pow j 10 (omega arith) in
    let d : n / 10 / 10 ^ j ≡ n / 10 ^ suc j = div-div-eq-div-mul n 10 (10 ^ j) ∙ ap (λ t. n / t) (sym q) in
    let front = apart k j (n / 10) (omega arith) (omega arith) in
    let more = enough k (suc k) (n / 10 / 10 ^ j) (omega arith) (omega (arith, div-le_self (n / 10) (10 ^ j))) in
    rw (le-ltb n 10 (omega arith), front, append_assoc)
    (ap (λ l. l ++ last (suc j) n) (sym more ∙ ap (decimal_up_to (suc k)) d))

-- A number of at most so many digits is the last of these, after zeros.
abbrev Padded : ℕ → ℕ → Type 0
Padded m n = (zeros : List ℕ) × (last (suc m) n ≡ zeros ++ decimal_up_to m n)

padded : (m n : ℕ) (t : Bool) → ltb n 10 ≡ t → Padded m (n / 10) → Padded (suc m) n
padded m n true is tens =
    let e : n % 10 ≡ n = omega (arith, ltb-true n 10 is) in
    (last (suc m) (n / 10), rw (is, e) refl)
padded m n false is tens = (tens.0, rw (is, tens.1, append_assoc) refl)

few : (m n : ℕ) → n < 10 ^ suc m → Padded m n
few zero n h = let e : n % 10 ≡ n = omega arith in ([], rw e refl)
few (suc m) n h = padded m n (ltb n 10) refl (few m (n / 10) (omega (arith, pow-suc 10 (suc m))))

pub four_more : (n : ℕ) → n < 2 ^ 64 → 10000 ≤ n → decimal n ≡ decimal (n / 10000) ++ four_digits (n % 10000)
unfolding decimal
four_more n small long = apart 19 4 n (omega arith) long ∙ ap (λ l. decimal_up_to 19 (n / 10000) ++ l) (last_four n)

pub four_last :
    (n : ℕ) (rest : List ℕ) → n < 10000 →
    drop (4 - length (decimal n)) (four_digits n ++ rest) ≡ decimal n ++ rest
unfolding decimal
four_last n rest h =
    let e : n % 10000 ≡ n = omega arith in
    let f : last 4 n ≡ four_digits n = rw e at (last_four n) in
    let d : decimal n ≡ decimal_up_to 3 n = enough 3 19 n (omega arith) h in
    let parts = few 3 n h in
    let is : four_digits n ≡ parts.0 ++ decimal n = sym f ∙ parts.1 ∙ ap (λ l. parts.0 ++ l) (sym d) in
    let size : 4 - length (decimal n) ≡ length parts.0 = omega (arith, simp length-append at (ap length is)) in
    ap (λ l. drop (4 - length (decimal n)) (l ++ rest)) is
    ∙ rw append_assoc (drop_at parts.0 (decimal n ++ rest) _ (sym size))

pub four_at_most : (n : ℕ) → n < 10000 → length (decimal n) ≤ 4
four_at_most n h = decimal_below 3 n h

one_at_least : (x y : ℕ) (front : List ℕ) (t : Bool) → 1 ≤ length (cond t (x ∷ []) (front ++ (y ∷ [])))
one_at_least x y front true = omega arith
one_at_least x y front false = simp length-append (omega arith)

pub some_digit : (n : ℕ) → 1 ≤ length (decimal n)
unfolding decimal
some_digit n = one_at_least (48 + n) (48 + n % 10) (decimal_up_to 18 (n / 10)) (ltb n 10)
