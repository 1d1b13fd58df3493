-- Checks whose grounds all have other numbers than n do not find the refusal with number n.
use Rattle.std.specs.Prelude.{Ok, Err}
use Prim.Native.Nat.{ℕ}
use native.Mathlib.Omega.{arith}
use mathlib.Core.Path.{◌≡◌, sym, ap, ◌∙◌}
use mathlib.Core.Bool.{Bool, true, false, true≢false, cond, ◌||◌}
use mathlib.Core.List.{List, [], ◌∷◌}
use lib.Dec.{eqb}
use borrow.Author.Tests.{eq-eqb}
use Rattle.refusals.specs.Grounds.{Ground, first_met, refusal_number, Checked}
use Rattle.refusals.specs.declared.Refusal.{Refusal}
use Rattle.refusals.proofs.FirstMet.{neither}

-- A ground of the list has the number.
abbrev pub numbered : ℕ → List Ground → Bool
numbered n [] = false
numbered n (g ∷ gs) = eqb (refusal_number g.refusal) n || numbered n gs

by_first :
    (met : Bool) (s r : Refusal) (rest : Checked) → cond met (Err s) rest ≡ Err r →
    eqb (refusal_number s) (refusal_number r) ≡ false → (rest ≡ Err r → ⊥) → ⊥
by_first true s r rest e other later =
    let same : refusal_number s ≡ refusal_number r = ap number e in
    true≢false (sym (eq-eqb (refusal_number s) (refusal_number r) same) ∙ other)
  where
    number : Checked → ℕ
    number (Err x) = refusal_number x
    number (Ok tt) = 0
by_first false s r rest e other later = later e

pub other_number : (n : ℕ) (gs : List Ground) → numbered n gs ≡ false → {r : Refusal} → first_met gs ≡ Err r →
    refusal_number r ≡ n → ⊥
other_number n [] none e is = let z : ◌≡◌ {A = ℕ} 0 1 = cc in omega arith
other_number n (g ∷ gs) none {r} e is =
    let parts = neither (eqb (refusal_number g.refusal) n) (numbered n gs) none in
    by_first g.met g.refusal r (first_met gs) e (ap (eqb (refusal_number g.refusal)) is ∙ parts.0)
    (λ later. other_number n gs parts.1 later is)
