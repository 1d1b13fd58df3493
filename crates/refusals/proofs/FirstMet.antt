-- The first ground met in two lists joined is the first of the earlier list, or where that passes the first of the
-- later one. Where none is met, each condition is false.
use Rattle.std.specs.Prelude.{Ok, Err}
use native.Mathlib.Omega.{arith}
use Prim.Native.Nat.{ℕ}
use mathlib.Core.Path.{◌≡◌, refl, ap, sym, ◌∙◌}
use mathlib.Core.Bool.{Bool, true, false, true≢false, cond, ◌||◌}
use mathlib.Core.List.{List, [], ◌∷◌, ◌++◌}
use Rattle.refusals.specs.Grounds.{Ground, first_met, or_else, Checked}
use Rattle.refusals.specs.declared.Refusal.{Refusal}

-- A choice that comes first stays first.
choice_first : (met : Bool) (refusal : Refusal) (rest later : Checked) →
    or_else (cond met (Err refusal) rest) later ≡ cond met (Err refusal) (or_else rest later)
choice_first true refusal rest later = refl
choice_first false refusal rest later = refl

-- Of two lists of grounds, those of the first come first.
pub first_of_both : (gs hs : List Ground) → first_met (gs ++ hs) ≡ or_else (first_met gs) (first_met hs)
first_of_both [] hs = refl
first_of_both (g ∷ gs) hs =
    ap (cond g.met (Err g.refusal)) (first_of_both gs hs)
    ∙ sym (choice_first g.met g.refusal (first_met gs) (first_met hs))

-- One ground is not met, and the rest pass.
pub not_met : (met : Bool) (refusal : Refusal) (rest : Checked) → cond met (Err refusal) rest ≡ Ok tt →
    (met ≡ false) × (rest ≡ Ok tt)
not_met true refusal rest e = absurd (let z : ◌≡◌ {A = ℕ} 0 1 = cc in omega arith)
not_met false refusal rest e = (refl, e)

pub both_pass : (earlier later : Checked) → or_else earlier later ≡ Ok tt → (earlier ≡ Ok tt) × (later ≡ Ok tt)
both_pass (Err r) later e = absurd (let z : ◌≡◌ {A = ℕ} 0 1 = cc in omega arith)
both_pass (Ok tt) later e = (refl, e)

-- A condition of two parts that is false has no part that is true.
pub neither : (a b : Bool) → (a || b) ≡ false → (a ≡ false) × (b ≡ false)
neither true b e = absurd (true≢false e)
neither false b e = (refl, e)

-- For calls whose checks are those of one list of grounds and then those of another.
pub ruleset in_turn = (first_of_both)
