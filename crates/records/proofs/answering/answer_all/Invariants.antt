-- What is written so far, and what the turns that are left write, make the whole.
use Rattle.std.proofs.Common.{◌≡◌, List, ℕ, Ok, vec_items, ◌-◌}
use denote.Param.Always.{always_mut}
use Rattle.std.specs.Fn.{CalledAtMut, FnReturns}
use Rattle.std.specs.Io.KnownBytes.{Appends}
use Rattle.records.proofs.Writing.{Ahead}
use Rattle.records.proofs.answering.answer_all.Given as goal

abbrev pub invariant-loop-turn : goal.invariant-loop-turn
invariant-loop-turn g l =
    always_mut g.N.FnMut l.next
    × ((text : List ℕ) × Appends (g.W.Write.contents l.initial.output) (g.W.Write.contents l.output) text
    × Ahead (λ f s found f' s'. CalledAtMut g.N.FnMut f s (Ok found) f' s')
    (λ case text. (v : _) × FnReturns g.F.Fn l.answer (case, tt) (Ok v) × (vec_items v ≡ text))
    l.most l.initial.next l.initial.input (l.most - l._turn) l.next l.input text)
