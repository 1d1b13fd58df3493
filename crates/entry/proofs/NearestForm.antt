-- Of the numbers of the form the entry's is the nearest. One of the same exponent is a whole number of thousandths away
-- from it. One of a coarser exponent is at least ten thousand of them, so more than one above it. One of a finer
-- exponent is at most 999.9 of them, while the share itself is at least 999.95, since one place more would have given
-- it five digits.
use Prim.Native.Nat.{ℕ, suc, ◌+◌, ◌*◌, ◌^◌, ◌≤◌, ◌<◌}
use native.Mathlib.Nat.{pow-le-pow_right, mul-le-mul, mul-le-mul_left, le_antisymm, eq-or-lt_of_le}
use native.Mathlib.Nat.{mul-add, mul-sub, le_of_eq, one-le-pow, eq_of_mul-eq-mul_left}
use native.Mathlib.Omega.{arith}
use mathlib.Core.Path.{◌≡◌, sym, ap, ap₂, ◌∙◌}
use mathlib.Core.Logic.{◌⊎◌, inl, inr}
use Rattle.std.proofs.lemmas.Bool.{cases_order}
use Rattle.balance.specs.Balance.{G}
use Rattle.rounding.proofs.Between.{Between}
use Rattle.entry.specs.Promises.{Printable, apart, distance, NearestPrintable}
use Rattle.entry.proofs.Places.{power_next}

times_apart : (k a b : ℕ) → k * apart a b ≡ apart (k * a) (k * b)
unfolding apart
times_apart k a b = simp (mul-add, mul-sub)

-- Where a is a number of thousandths, p the entry's and q another's, all over g.
record Other (g a p q : ℕ) : Type 0 where
  closer : apart a p ≤ apart a q
  as_close : apart a p ≡ apart a q → q ≤ p

module _ {g a p : ℕ} (above : 2 * p ≤ 2 * a + g) (below : 2 * a < 2 * p + g) where
  higher : {q : ℕ} → p + g ≤ q → Other g a p q
  unfolding apart
  higher far = record { closer = omega arith; as_close = λ e. omega arith }

  lower : {q : ℕ} → q + g ≤ p → Other g a p q
  unfolding apart
  lower far = record { closer = omega arith; as_close = λ e. omega arith }

  far_finer : {q : ℕ} → 10 * q ≤ 9999 * g → 19999 * g ≤ 20 * a → (p ≡ 1000 * g) ⊎ (1001 * g ≤ p) → Other g a p q
  unfolding apart
  far_finer small turn (inl thousand) = record { closer = omega arith; as_close = λ e. omega arith }
  far_finer small turn (inr more) = record { closer = omega arith; as_close = λ e. omega arith }

same : {g a p q : ℕ} → q ≡ p → Other g a p q
unfolding apart
same {a = a} e = record { closer = le_of_eq (ap (apart a) (sym e)); as_close = λ _. omega arith }

-- Another power of ten is at least ten times as large, or as small.
power_gap : {e k : ℕ} → e < k → 10 * 10 ^ (e + 3) ≤ 10 ^ (k + 3)
power_gap {e} {k} less =
    let most : 10 ^ (suc e + 3) ≤ 10 ^ (k + 3) = pow-le-pow_right {n = 10} (omega arith) (omega arith) in
    omega (arith, power_next e)

-- A number of a coarser exponent is larger by one in the last place of the finer one at least.
coarser_larger :
    {d e d' e' : ℕ} → Printable d e → Printable d' e' → e' < e → 10 ^ (e' + 3) * suc d ≤ 10 ^ (e + 3) * d'
coarser_larger {d} {e} {d'} {e'} p q less =
    let many : 10 * 10 ^ (e' + 3) * 1000 ≤ 10 ^ (e + 3) * d' = mul-le-mul (power_gap less) q.first_digit in
    omega (arith, mul-le-mul_left (10 ^ (e' + 3)) p.four_digits)

-- The other number against the entry's, over G × 10^(e + 3) × 10^(e' + 3).
module _ (x d e : ℕ) (between : Between (x * 10 ^ (e + 3)) G d) (turn : 19999 * G ≤ 20 * (x * 10 ^ (e + 3)))
    (printable : Printable d e) where
  module _ (d' e' : ℕ) (other : Printable d' e') where
    abbrev t : ℕ
    t = 10 ^ (e + 3)

    abbrev b : ℕ
    b = 10 ^ (e' + 3)

    above : 2 * (b * (d * G)) ≤ 2 * (b * (x * t)) + b * G
    above = omega (arith, mul-le-mul_left b between.above)

    below : 2 * (b * (x * t)) < 2 * (b * (d * G)) + b * G
    below = omega (arith, mul-le-mul_left b between.below, one-le-pow (e' + 3) 10 (omega arith))

    coarser : e' < e → Other (b * G) (b * (x * t)) (b * (d * G)) (t * (d' * G))
    coarser less = higher above below (omega (arith, coarser_larger printable other less))

    finer : e < e' → (1000 ≡ d) ⊎ (1000 < d) → Other (b * G) (b * (x * t)) (b * (d * G)) (t * (d' * G))
    finer more first =
        let few : 10 * t * d' ≤ b * 9999 = mul-le-mul (power_gap more) other.four_digits in
        far_finer above below (omega arith) (omega (arith, mul-le-mul_left b turn)) (scaled first)
      where
        scaled : (1000 ≡ d) ⊎ (1000 < d) → (b * (d * G) ≡ 1000 * (b * G)) ⊎ (1001 * (b * G) ≤ b * (d * G))
        scaled (inl equal) = inl (omega (arith, ap (λ n. b * n) equal))
        scaled (inr larger) = inr (omega (arith, mul-le-mul_left b larger))

    alike : e' ≡ e → (d' ≡ d) ⊎ (d' < d) ⊎ (d < d') → Other (b * G) (b * (x * t)) (b * (d * G)) (t * (d' * G))
    alike equal (inl digits) = same (ap₂ (λ k n. 10 ^ (k + 3) * (n * G)) (sym equal) digits)
    alike equal (inr (inl less)) =
        let power : t ≡ b = ap (λ k. 10 ^ (k + 3)) (sym equal) in
        lower above below (omega (arith, mul-le-mul_left b less, ap (λ n. n * d') power))
    alike equal (inr (inr more)) =
        let power : t ≡ b = ap (λ k. 10 ^ (k + 3)) (sym equal) in
        higher above below (omega (arith, mul-le-mul_left b more, ap (λ n. n * d') power))

    compared : Other (b * G) (b * (x * t)) (b * (d * G)) (t * (d' * G))
    compared = by_exponent (cases_order e' e)
      where
        by_exponent : (e' ≡ e) ⊎ (e' < e) ⊎ (e < e') → Other (b * G) (b * (x * t)) (b * (d * G)) (t * (d' * G))
        by_exponent (inl equal) = alike equal (cases_order d' d)
        by_exponent (inr (inl less)) = coarser less
        by_exponent (inr (inr more)) = finer more (eq-or-lt_of_le printable.first_digit)

    ours : b * distance x d e ≡ apart (b * (x * t)) (b * (d * G))
    ours = times_apart b (x * t) (d * G)

    theirs : t * distance x d' e' ≡ apart (b * (x * t)) (t * (d' * G))
    theirs = times_apart t (x * b) (d' * G) ∙ ap (λ n. apart n (t * (d' * G))) (omega arith)

  pub nearest_printable : NearestPrintable x d e
  nearest_printable =
      record {
        printable = printable;
        none_nearer = λ d' e' other. rw (ours d' e' other, theirs d' e' other) (compared d' e' other).closer;
        half_up = λ d' e' other equal.
            let most = (compared d' e' other).as_close (sym (ours d' e' other) ∙ equal ∙ theirs d' e' other) in
            omega arith;
      }

-- No number is of the form in two ways.
same_number :
    {d e d' e' : ℕ} → Printable d e → Printable d' e' → 10 ^ (e + 3) * d' ≡ 10 ^ (e' + 3) * d →
    (d' ≡ d) × (e' ≡ e)
same_number {d} {e} {d'} {e'} p q equal = by_exponent (cases_order e' e)
  where
    some : (k : ℕ) → 1 ≤ 10 ^ (k + 3)
    some k = one-le-pow (k + 3) 10 (omega arith)

    by_exponent : (e' ≡ e) ⊎ (e' < e) ⊎ (e < e') → (d' ≡ d) × (e' ≡ e)
    by_exponent (inl same) =
        (eq_of_mul-eq-mul_left (10 ^ (e + 3)) (some e) d' d (equal ∙ ap (λ k. 10 ^ (k + 3) * d) same), same)
    by_exponent (inr (inl less)) = absurd (omega (arith, coarser_larger p q less, some e'))
    by_exponent (inr (inr more)) = absurd (omega (arith, coarser_larger q p more, some e))

pub only_nearest : {x d e d' e' : ℕ} → NearestPrintable x d e → NearestPrintable x d' e' → (d' ≡ d) × (e' ≡ e)
only_nearest {d = d} {e = e} {d' = d'} {e' = e'} n m =
    let equal = le_antisymm (n.none_nearer d' e' m.printable) (m.none_nearer d e n.printable) in
    same_number n.printable m.printable
    (le_antisymm (n.half_up d' e' m.printable equal) (m.half_up d e n.printable (sym equal)))
