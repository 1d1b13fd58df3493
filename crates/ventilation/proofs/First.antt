-- What the first of a number of rates is at which a test holds: the test holds there, and at none before. And where it
-- holds from a number on and nowhere before, that number is the first, if it is among the rates.
use Rattle.std.specs.Prelude.{Option, Some, None}
use Prim.Native.Nat.{ℕ, zero, suc, ◌+◌, ◌≤◌, ◌<◌}
use native.Mathlib.Nat.{eq-or-lt_of_le, le_refl}
use native.Mathlib.Omega.{arith}
use mathlib.Core.Path.{◌≡◌, refl, ap, sym, ◌∙◌}
use mathlib.Core.Logic.{◌⊎◌, inl, inr}
use mathlib.Core.Bool.{Bool, true, false, cond}
use Rattle.std.proofs.Common.{leb}
use Rattle.std.proofs.lemmas.Bool.{leb-true, leb-false, lt-leb}
use Rattle.ventilation.specs.Lowest.{first_rate}

-- The test holds at none from `v` on up to before `end`.
abbrev pub Fails : (ℕ → Bool) → ℕ → ℕ → Type 0
Fails test v end = (k : ℕ) → v ≤ k → k < end → test k ≡ false

pub record FoundAt (test : ℕ → Bool) (v end r : ℕ) : Type 0 where
  pub from : v ≤ r
  pub within : r < end
  pub holds : test r ≡ true
  pub fails : Fails test v r

abbrev pub First : (ℕ → Bool) → ℕ → ℕ → Option ℕ → Type 0
First test v end (Some r) = FoundAt test v end r
First test v end None = Fails test v end

module _ (test : ℕ → Bool) where
  fails_also : (v k : ℕ) → test v ≡ false → (v ≡ k) ⊎ (v < k) → (v < k → test k ≡ false) → test k ≡ false
  fails_also v k fails (inl same) above = ap test (sym same) ∙ fails
  fails_also v k fails (inr l) above = above l

  fails_before : (v end : ℕ) → test v ≡ false → Fails test (suc v) end → Fails test v end
  fails_before v end fails above k from l = fails_also v k fails (eq-or-lt_of_le from) (λ later. above k later l)

  later : (v end : ℕ) → test v ≡ false → (answer : Option ℕ) → First test (suc v) end answer → First test v end answer
  later v end fails (Some r) found =
      record {
        from = omega (arith, found.from);
        within = found.within;
        holds = found.holds;
        fails = fails_before v r fails found.fails;
      }
  later v end fails None above = fails_before v end fails above

  by_test :
      (v end : ℕ) (t : Bool) → test v ≡ t → v < end → (answer : Option ℕ) → First test (suc v) end answer →
      First test v end (cond t (Some v) answer)
  by_test v end true e l answer found =
      record { from = le_refl v; within = l; holds = e; fails = λ k from less. absurd (omega arith) }
  by_test v end false e l answer found = later v end e answer found

  pub first_is : (more v end : ℕ) → v + more ≡ end → First test v end (first_rate test v more)
  unfolding first_rate
  first_is zero v end e = λ k from l. absurd (omega arith)
  first_is (suc more) v end e =
      by_test v end (test v) refl (omega arith) (first_rate test (suc v) more) (first_is more (suc v) end (omega arith))

-- The test holds from r on and nowhere before.
module _ {test : ℕ → Bool} {end r : ℕ} (told : (k : ℕ) → k < end → test k ≡ leb r k) where
  by_order :
      (v : ℕ) {answer : Option ℕ} (t : Bool) → leb r v ≡ t → v ≤ r → (v < r → answer ≡ Some r) →
      cond t (Some v) answer ≡ Some r
  by_order v true from l later = ap Some (omega (arith, leb-true r v from))
  by_order v false before l later = later (leb-false r v before)

  passed_over : (more v : ℕ) → v + more ≡ end → v ≤ r → r < end → first_rate test v more ≡ Some r
  unfolding first_rate
  passed_over zero v e l within = absurd (omega arith)
  passed_over (suc more) v e l within =
      rw (told v (omega arith))
      (by_order v (leb r v) refl l (λ less. passed_over more (suc v) (omega arith) less within))

  none_left : (more v : ℕ) → v + more ≡ end → end ≤ r → first_rate test v more ≡ None
  unfolding first_rate
  none_left zero v e past = refl
  none_left (suc more) v e past =
      rw (told v (omega arith), lt-leb r v (omega arith)) (none_left more (suc v) (omega arith) past)

  pub found_rate : r < end → Some r ≡ first_rate test 0 end
  found_rate within = sym (passed_over end 0 (omega arith) (omega arith) within)

  pub found_none : end ≤ r → None ≡ first_rate test 0 end
  found_none past = sym (none_left end 0 (omega arith) past)
