-- After k turns the list holds the factors of k minutes.
use Rattle.std.proofs.Common.{take}
use Rattle.book.specs.Fields.{members}
use Rattle.minutes.specs.Private.Holding.{minutes_at}
use Rattle.minutes.proofs.Holding.{Reached}
use Rattle.minutes.proofs.passing.pass_minutes.Given as goal

abbrev pub invariant-loop-passed : goal.invariant-loop-passed
invariant-loop-passed l =
    let book = l.chain.chain.now.bytes.now in
    Reached book l.initial.out (minutes_at book l.v.hundredths l._passed (take (members book) l.initial.out)) l.out
