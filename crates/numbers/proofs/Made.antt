-- An array that is made by calls at each place: where the closure answers h, its places hold h 0, h 1, ..
use Prim.Native.Nat.{ℕ, zero, suc, ◌+◌, ◌<◌}
use native.Mathlib.Nat.{le_of_suc-le-suc}
use native.Mathlib.Omega.{arith}
use mathlib.Core.Path.{◌≡◌, subst, ◌∙◌}
use mathlib.Core.List.{List}
use lib.ListN.{get_or}
use denote.Param.Members.{Mut}
use Rattle.std.specs.Fn.{Called}
use Rattle.std.specs.Array.{IsFromFnResult, IsFromFnResultFrom}

module _ {F : Type 0} (g : Mut F (ℕ × Unit {0}) ℕ) (f : F) (list : List ℕ) (h : ℕ → ℕ)
    (computes : (i y : ℕ) (q : F) → Called g f (i, tt) y q → (q ≡ f) × (y ≡ h i)) where
  from_place : (n i k j : ℕ) → IsFromFnResultFrom g f list i n → k < n → i + k ≡ j → get_or list j 0 ≡ h j
  from_place zero i k j calls l e = absurd (omega arith)
  from_place (suc n) i zero j calls l e =
      let answer = (computes i calls.1 calls.0 calls.3).1 in
      let here : i ≡ j = omega arith in
      subst (λ m. get_or list m 0 ≡ h m) here (calls.2.1 0 ∙ answer)
  from_place (suc n) i (suc k) j calls l e =
      let same = (computes i calls.1 calls.0 calls.3).0 in
      let later = subst (λ q. IsFromFnResultFrom g q list (i + 1) n) same calls.4 in
      from_place n (i + 1) k j later (le_of_suc-le-suc l) (omega arith)

pub made_by :
    {F : Type 0} {g : Mut F (ℕ × Unit {0}) ℕ} {f : F} {list : List ℕ} {n : ℕ} (h : ℕ → ℕ) → IsFromFnResult g f list n →
    ((i y : ℕ) (q : F) → Called g f (i, tt) y q → (q ≡ f) × (y ≡ h i)) → (k : ℕ) → k < n → get_or list k 0 ≡ h k
made_by {g = g} {f} {list} h calls computes k l = from_place g f list h computes _ 0 k k calls.each l (omega arith)
