-- The list begins as a shut room's, and a turn passes one period more in the list itself.
use Rattle.std.proofs.Common.{arith, rules, length-append}
use Rattle.book.proofs.Ranges.{accepted_ranges}
use Rattle.minutes.proofs.Pairs.{pair_at}
use Rattle.minutes.proofs.Holding.{periods_none, periods_more}
use Rattle.minutes.proofs.passing.pass_each.Goals as goal

pub begin-requires : goal.begin-requires
begin-requires c =
    let some = (accepted_ranges _ c.args.chain.accepted).members_count.from in
    (omega (arith, c.members-members.ensures.value), omega (arith, c.members-members.ensures.value, c.requires.enough))

pub loop-period-init : goal.loop-period-init
loop-period-init c =
    record {
      reached =
          periods_none
          (record {
            accepted = c.args.chain.accepted;
            capacity = c.requires.enough;
            counted = c.members-members.ensures.value;
            content = c.begin.ensures;
          })
          c.args.periods.now;
      ahead = record { pairs = search rules; left = search rules };
    }

pub invariant_of-v : goal.invariant_of-v
invariant_of-v c =
    let here = pair_at c.in-Some.period c.next.new.self c.loop-period.invariant.ahead c.in-Some.ensures.steps in
    record { within = rw here.first (c.requires.rates_within _ here.within) }

pub loop-period-preserved : goal.loop-period-preserved
loop-period-preserved c =
    let here = pair_at c.in-Some.period c.next.new.self c.loop-period.invariant.ahead c.in-Some.ensures.steps in
    rw length-append
    (record { reached = periods_more here c.loop-period.invariant.reached c.pass_minutes.ensures; ahead = here.ahead })
