-- What is written so far and the answers still ahead make the whole.
use Rattle.std.proofs.Common.{◌≡◌, ◌++◌, drop}
use Rattle.case_texts.specs.Texts.{signed, spaced}
use Rattle.case_texts.proofs.words.push_answers.Given as goal

abbrev pub invariant-loop-answer : goal.invariant-loop-answer
invariant-loop-answer l =
    l.text.items ++ spaced signed (drop l.answer-index l.list) ≡ l.initial.text.items ++ spaced signed l.list
