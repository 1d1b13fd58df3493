-- What is written so far and the places still ahead make the whole.
use Rattle.std.proofs.Common.{◌≡◌, ◌++◌, drop}
use Rattle.case_texts.specs.Texts.{places}
use Rattle.case_texts.proofs.words.push_places.Given as goal

abbrev pub invariant-loop-n : goal.invariant-loop-n
invariant-loop-n l = l.text.items ++ places (drop l.n-index l.list) ≡ l.initial.text.items ++ places l.list
