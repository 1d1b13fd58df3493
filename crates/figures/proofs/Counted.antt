-- What the call answers, by its number: a count tells that the promise holds.
use Prim.Native.Nat.{ℕ}
use mathlib.Core.Path.{◌≡◌, refl}
use mathlib.Core.List.{List}
use lib.IntN.{pos}
use Rattle.std.specs.Prelude.{Ok, Err, Result}
use Rattle.refusals.specs.Grounds.{answer_number}
use Rattle.refusals.specs.declared.Refusal.{Refusal}
use Rattle.refusals.proofs.Numbers.{no_count}
use Rattle.figures.specs.Promises.{NumbersTold, NumbersPromise}
use Rattle.figures.specs.declared.FigureNumbers.{FigureNumbers}

pub told :
    (answer : Result ℕ Refusal) {job second : List ℕ} {figures : FigureNumbers} (n : ℕ) →
    NumbersPromise job second answer figures →
    answer_number answer ≡ pos n → NumbersTold job second figures
told (Ok m) n promise e = promise m refl
told (Err refusal) n promise e = absurd (no_count refusal n e)
