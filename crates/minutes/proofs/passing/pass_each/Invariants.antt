-- After some turns the list holds the factors of as many periods, and the others are ahead.
use Rattle.std.proofs.Common.{length}
use Rattle.minutes.specs.Private.Holding.{periods_at}
use Rattle.minutes.proofs.Holding.{Reached}
use Rattle.minutes.proofs.Pairs.{Ahead}
use Rattle.minutes.proofs.passing.pass_each.Given as goal

abbrev pub invariant-loop-period : goal.invariant-loop-period
invariant-loop-period l =
    let book = l.chain.chain.now.bytes.now in
    record {
      reached : Reached book l.initial.out (periods_at book l.periods (length l.yielded)) l.out;
      ahead : Ahead l.periods (length l.yielded) l.period-iterator;
    }
