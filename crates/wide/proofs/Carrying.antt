-- The chain of carries from the last column up: what a column passes on counts in the next, so the limbs that stay,
-- with the carry as one more on top, are worth the columns.
use Rattle.std.proofs.Common.{◌≡◌, ℕ, suc, ◌+◌, ◌*◌, ◌/◌, ◌%◌, ◌^◌, ◌<◌, List, [], ◌∷◌, ◌++◌, length}
use Rattle.std.proofs.Common.{reverse, sym, ap, ◌∙◌, ◌≤◌, get_or, set, drop, drop-cons, arith}
use Rattle.std.proofs.Math.Nat.{pow-succ'}
use native.Mathlib.Numerals.{add-one}
use Rattle.std.proofs.lemmas.List.{reverse-append, length-reverse, length-drop, length-set, drop-set}
use Rattle.std.proofs.lemmas.Grind.{common_steps}
use Rattle.wide.specs.Value.{value}
use Rattle.wide.specs.Limbs.{number, SixLimbs}

value_last : (xs : List ℕ) (x : ℕ) → value (xs ++ x ∷ []) ≡ value xs + (2 ^ 32) ^ length xs * x
value_last [] x = omega arith
value_last (y ∷ ys) x =
    rw (pow-succ' (2 ^ 32) (length ys)) (omega (arith, value_last ys x))

number_cons : (x : ℕ) (xs : List ℕ) → number (x ∷ xs) ≡ number xs + (2 ^ 32) ^ length xs * x
number_cons x xs =
    ap value (reverse-append (x ∷ []) xs) ∙ value_last (reverse xs) x
    ∙ ap (λ (n : ℕ). number xs + (2 ^ 32) ^ n * x) (length-reverse xs)

column : (c carry total d e p : ℕ) → d ≡ e + p * carry → total ≡ c + carry
    → d + p * c ≡ (e + p * (total % 2 ^ 32)) + 2 ^ 32 * p * (total / 2 ^ 32)
column c carry total d e p h f =
    let g : p * total ≡ p * (c + carry) = ap (λ (x : ℕ). p * x) f in
    let s : p * total ≡ p * (total / 2 ^ 32 * 2 ^ 32 + total % 2 ^ 32) = ap (λ (x : ℕ). p * x) (omega arith) in
    omega arith

above : (c carry total : ℕ) (d e : List ℕ) → length d ≡ length e → number d ≡ number (carry ∷ e) → total ≡ c + carry
    → number (c ∷ d) ≡ number (total / 2 ^ 32 ∷ total % 2 ^ 32 ∷ e)
above c carry total d e l h f =
    let p = (2 ^ 32) ^ length e in
    let whole : number d ≡ number e + p * carry = h ∙ number_cons carry e in
    number_cons c d ∙ ap (λ (n : ℕ). number d + (2 ^ 32) ^ n * c) l
    ∙ column c carry total (number d) (number e) p whole f
    ∙ sym (number_cons (total / 2 ^ 32) (total % 2 ^ 32 ∷ e)
    ∙ ap (λ (x : ℕ). x + (2 ^ 32) ^ suc (length e) * (total / 2 ^ 32)) (number_cons (total % 2 ^ 32) e)
    ∙ ap (λ (x : ℕ). number e + p * (total % 2 ^ 32) + x * (total / 2 ^ 32)) (pow-succ' (2 ^ 32) (length e)))

-- What is true before the column below place i: nothing goes into the lowest column.
pub record Carried (columns limbs : List ℕ) (carry i : ℕ) : Type 0 where
  pub six : SixLimbs limbs
  pub none_yet : i ≡ 6 → carry ≡ 0
  pub short : carry < 2 ^ 32
  pub whole : number (drop i columns) ≡ number (carry ∷ drop i limbs)

pub carried_on : (columns limbs : List ℕ) (i j : ℕ) {carry total limb : ℕ} → length columns ≡ 6 → i ≡ suc j → j < 6
    → Carried columns limbs carry i → total ≡ get_or columns j 0 + carry → total < 2 ^ 64 → limb ≡ total % 2 ^ 32
    → Carried columns (set limbs j limb) (total / 2 ^ 32) j
carried_on columns limbs i j {carry} {total} {limb} long e l s f word low =
    let whole = rw e at s.whole in
    let lengths : length (drop (suc j) columns) ≡ length (drop (suc j) limbs) =
    omega (arith, length-drop (suc j) columns, length-drop (suc j) limbs, s.six.six) in
    record {
      six = record {
        six = length-set limbs j limb ∙ s.six.six;
        each = λ k. record { fits = grind (arith, common_steps, s.six.six, (s.six.each k).fits) };
      };
      none_yet = λ g. absurd (omega arith);
      short = omega arith;
      whole =
          rw (drop-cons columns j 0 (omega arith), drop-set limbs j limb (omega (arith, s.six.six)), add-one, low)
          (above (get_or columns j 0) carry total (drop (suc j) columns) (drop (suc j) limbs) lengths whole f);
    }

pub settled : (columns limbs : List ℕ) {carry i : ℕ} → i ≤ 0 → Carried columns limbs carry i
    → number columns ≡ number limbs + 2 ^ 192 * carry
settled columns limbs {carry} {i} l s =
    let none : i ≡ 0 = omega arith in
    (rw none at s.whole) ∙ number_cons carry limbs
    ∙ ap (λ (n : ℕ). number limbs + (2 ^ 32) ^ n * carry) s.six.six
