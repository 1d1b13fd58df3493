-- What is done and the next rates' answers and rows make what is done after them.
use Rattle.std.proofs.Common.{rules, arith}
use Rattle.portfolios.proofs.Running.{begun, ended}
use Rattle.portfolios.proofs.Tail.{more_in_place}
use Rattle.portfolios.proofs.run.run_rates.Goals as goal

pub loop-i-init : goal.loop-i-init
loop-i-init c =
    begun c.args.width c.args.chain.now.bytes.now c.args.rates.now c.args.rows.now c.args.answers.now c.requires.lent

pub offset_bounds-rows-at : goal.offset_bounds-rows-at
offset_bounds-rows-at c = search rules

pub slice_bounds-run_next-count-in-loop-i-2 : goal.slice_bounds-run_next-count-in-loop-i-2
slice_bounds-run_next-count-in-loop-i-2 c = c.loop-i.invariant.place

pub slice_bounds-run_next-start-in-loop-i-2 : goal.slice_bounds-run_next-start-in-loop-i-2
slice_bounds-run_next-start-in-loop-i-2 c = c.loop-i.invariant.place

pub rows_end-at-requires : goal.rows_end-at-requires
rows_end-at-requires c = search rules

pub loop-i-preserved : goal.loop-i-preserved
loop-i-preserved c =
    more_in_place c.loop-i.invariant c.run_next-count.ensures (search rules) (search rules) c.rows_end-at.ensures

pub returns-clause-answers : goal.returns-clause-answers
returns-clause-answers c = (ended c.loop-i.invariant (omega arith)).0

pub returns-clause-rows : goal.returns-clause-rows
returns-clause-rows c = (ended c.loop-i.invariant (omega arith)).1
