-- A list that is too short for an answer is refused, and so leaves nothing.
use Prim.Native.Nat.{ℕ}
use mathlib.Core.Path.{◌≡◌}
use mathlib.Core.Bool.{Bool, true, false, cond}
use lib.Dec.{ltb}
use Rattle.std.specs.Prelude.{Ok, Err, Result}
use Rattle.refusals.specs.Grounds.{Checked}
use Rattle.refusals.specs.declared.Refusal.{Refusal}
use Rattle.screening.specs.declared.job.Answer.{Answer}
use Rattle.figures.specs.Numbers.{lent}

pub too_short :
    {answered : Result Answer Refusal} {answer : Answer} {refusal : Refusal} (places : ℕ) → answered ≡ Ok answer →
    ◌≡◌ {A = Checked} (cond (ltb places answer.count) (Err Refusal.ListTooShort) (Ok tt)) (Err refusal) →
    lent answered places ≡ Err refusal
too_short {answer = answer} {refusal} places is refused = rw is (told (ltb places answer.count) refused)
  where
    told : (b : Bool) → ◌≡◌ {A = Checked} (cond b (Err Refusal.ListTooShort) (Ok tt)) (Err refusal) →
        ◌≡◌ {A = Result Answer Refusal} (cond b (Err Refusal.ListTooShort) (Ok answer)) (Err refusal)
    told true e = cc
    told false e = cc
