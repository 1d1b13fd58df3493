-- The capped quotient by bisection. Multiples of b grow with the factor, so once one passes a every later one does. The
-- first factor whose multiple does, less one, is the largest whose multiple does not.
use Rattle.std.proofs.Common.{ℕ, zero, suc, ◌+◌, ◌*◌, ◌≤◌, Bool, not, leb, ap, sym, ◌∙◌, mul-le-mul_right, arith}
use Rattle.std.proofs.lemmas.Bool.{not-true, not-false, leb-true, leb-false, le-leb, lt-leb}
use native.Mathlib.Numerals.{add-one}
use Rattle.numbers.specs.Bisection.{Between, Rises}
use Rattle.numbers.proofs.Bisection.{found}
use Rattle.wide.specs.Quotient.{LargestQuotient}

-- Whether the factor after k times b passes a.
abbrev pub passes_after : ℕ → ℕ → ℕ → Bool
passes_after a b k = not (leb ((k + 1) * b) a)

pub passes_rises : (a b cap : ℕ) → Rises (passes_after a b) cap
passes_rises a b cap = record {
  stays = λ k l from less e.
      let grows : (k + 1) * b ≤ (l + 1) * b = mul-le-mul_right b (omega arith) in
      ap not (lt-leb ((l + 1) * b) a (omega (arith, leb-false ((k + 1) * b) a (not-true _ e), grows)));
}

module _ (a b : ℕ) {cap low high : ℕ} (span : Between (passes_after a b) cap low high) where
  fits : (k : ℕ) → k ≤ low → k * b ≤ a
  fits zero l = omega arith
  fits (suc k) l = rw add-one at (leb-true ((k + 1) * b) a (not-false _ (span.fails k (omega arith))))

  largest : high ≤ low → (k : ℕ) → k ≤ cap → k * b ≤ a → k ≤ low
  largest none zero l f = omega arith
  largest none (suc k) l f =
      let is = found span (passes_rises a b cap) none k (omega arith) in
      let fails = ap not (le-leb ((k + 1) * b) a (rw add-one f)) in
      omega (arith, leb-false low k (sym is ∙ fails))

  pub largest_found : high ≤ low → LargestQuotient a b cap low
  largest_found none =
      record { within = omega (arith, span.order, span.within); fits = fits low (omega arith); largest = largest none }
