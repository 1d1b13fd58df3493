use Rattle.std.proofs.Common.{[], Ok, Some, None, ◌++◌, refl, rules, of_calls}
use Rattle.std.specs.Fn.{CalledAtMut, FnReturns}
use Rattle.std.proofs.KnownBytes.{Appends-nil, Appends-trans}
use Rattle.records.proofs.Writing.{begun, turned, ended, all_turned}
use Rattle.records.proofs.answering.answer_all.Goals as goal

pub loop-turn-init : goal.loop-turn-init
loop-turn-init g c = (search rules, ([], Appends-nil _, begun _ _ _ _ _))

pub loop-turn-preserved : goal.loop-turn-preserved
loop-turn-preserved g c =
    let text = c.in_ok-text.text.items in
    let case = c.in-Some.case in
    let so_far = c.loop-turn.invariant.1 in
    let called :
    CalledAtMut g.N.FnMut c.loop-turn.next c.loop-turn.input (Ok c.in_ok-case.field-0) c.next.new.self c.next.new.arg2 =
    record { shown = _; shows = refl; left = _; called = c.in_ok-case.ensures; leaves = refl } in
    let found :
    CalledAtMut g.N.FnMut c.loop-turn.next c.loop-turn.input (Ok (Some case)) c.next.new.self c.next.new.arg2 =
    rw c.in-Some.is at called in
    let answered : FnReturns g.F.Fn c.args.answer (case, tt) (Ok c.in_ok-text.text) =
    record { met = c.in_ok-text.ensures } in (
      search (rules, of_calls),
      (
        so_far.0 ++ text,
        Appends-trans _ _ _ _ _ so_far.1 (rw c.deref.ensures.value at c.in_ok-write_all.ensures.bytes),
        turned _ _ _ _ _ _ _ _ _ _ case _ text c.loop-turn-test.true found (c.in_ok-text.text, answered, refl) so_far.2,
      ),
    )

pub returns-in_default : goal.returns-in_default
returns-in_default g c =
    let so_far = c.loop-turn.invariant.1 in
    let called :
    CalledAtMut g.N.FnMut c.loop-turn.next c.loop-turn.input (Ok c.in_ok-case.field-0) c.next.new.self c.next.new.arg2 =
    record { shown = _; shows = refl; left = _; called = c.in_ok-case.ensures; leaves = refl } in
    let none : CalledAtMut g.N.FnMut c.loop-turn.next c.loop-turn.input (Ok None) c.next.new.self c.next.new.arg2 =
    rw c.in_default.is at called in
    (so_far.0, ended _ _ _ _ _ _ _ _ _ _ _ c.loop-turn-test.true none so_far.2, so_far.1)

pub returns : goal.returns
returns g c =
    let so_far = c.loop-turn.invariant.1 in
    (so_far.0, all_turned _ _ _ _ _ _ _ _ _ c.loop-turn-test.false so_far.2, so_far.1)
