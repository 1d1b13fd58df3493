-- Induction along a chain: a member is fed by earlier ones,
-- so what the parent has and each member takes over from all the earlier ones, all have.
use Prim.Native.Nat.{ℕ, zero, suc, ◌≤◌, ◌<◌}
use native.Mathlib.Nat.{le_refl, eq-or-lt_of_le, le_of_suc-le-suc}
use native.Mathlib.Omega.{arith}
use mathlib.Core.Path.{◌≡◌, subst, sym}
use mathlib.Core.Logic.{◌⊎◌, inl, inr}

module _ (Q : ℕ → Type 0) (n : ℕ) (parent : Q 0) (later : (k : ℕ) → k < n → ((j : ℕ) → j ≤ k → Q j) → Q (suc k)) where
  all_up_to : (k : ℕ) → k ≤ n → (j : ℕ) → j ≤ k → Q j
  all_up_to zero le j l = subst Q (omega arith) parent
  all_up_to (suc k) le j l = last_or_before (eq-or-lt_of_le l) (all_up_to k (omega arith))
    where
      last_or_before : (j ≡ suc k) ⊎ (j < suc k) → ((i : ℕ) → i ≤ k → Q i) → Q j
      last_or_before (inl e) earlier = subst Q (sym e) (later k le earlier)
      last_or_before (inr h) earlier = earlier j (le_of_suc-le-suc h)

  pub along_chain : (k : ℕ) → k ≤ n → Q k
  along_chain k le = all_up_to k le k (le_refl k)
