-- Bisection, for any test that goes on holding once it holds. The span begins as all numbers below `count`. Each turn
-- tests a number in it: where the test holds there, the first such number lies no higher; where it fails, it fails at
-- every lower number too, and the first lies above. Where nothing of the span is left, the test holds from that number
-- on and nowhere before.
use Prim.Native.Nat.{ℕ, ◌+◌, ◌≤◌, ◌<◌}
use native.Mathlib.Omega.{arith}
use mathlib.Core.Path.{◌≡◌, refl, sym, ◌∙◌}
use mathlib.Core.Bool.{Bool, true, false, true≢false}
use Rattle.std.proofs.Common.{leb}
use Rattle.std.proofs.lemmas.Bool.{leb-true, leb-false}
use Rattle.numbers.specs.Bisection.{Between, Rises}

pub begin : (test : ℕ → Bool) (count : ℕ) → Between test count 0 count
begin test count =
    record {
      order = omega arith;
      within = omega arith;
      fails = λ k less. absurd (omega arith);
      holds = λ less. absurd (omega arith);
    }

module _ {test : ℕ → Bool} {count low high : ℕ} (span : Between test count low high) where
  pub lower_half : {m : ℕ} → low ≤ m → m < high → test m ≡ true → Between test count low m
  lower_half from less holds =
      record { order = from; within = omega (arith, span.within); fails = span.fails; holds = λ l. holds }

  -- no number up to one that fails can pass
  fails_up_to :
      {m : ℕ} → Rises test count → m < high → test m ≡ false → (k : ℕ) → k < m + 1 → (t : Bool) → test k ≡ t →
      test k ≡ false
  fails_up_to {m} rises l fails k less true e =
      absurd (true≢false (sym (rises.stays k m (omega arith) (omega (arith, span.within)) e) ∙ fails))
  fails_up_to rises l fails k less false e = e

  pub upper_half : {m : ℕ} → Rises test count → m < high → test m ≡ false → Between test count (m + 1) high
  upper_half {m} rises l fails =
      record {
        order = omega arith;
        within = span.within;
        fails = λ k less. fails_up_to rises l fails k less (test k) refl;
        holds = span.holds;
      }

  -- nothing of the span is left
  pub found : Rises test count → high ≤ low → (k : ℕ) → k < count → test k ≡ leb low k
  found rises none k less = from_or_before (leb low k) refl
    where
      from_or_before : (t : Bool) → leb low k ≡ t → test k ≡ leb low k
      from_or_before true e =
          let from : high ≤ k = omega (arith, leb-true low k e) in
          rises.stays high k from less (span.holds (omega arith)) ∙ sym e
      from_or_before false e = span.fails k (leb-false low k e) ∙ sym e
