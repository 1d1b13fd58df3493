-- Each member's factor is made of those in the places before it, so it is the reported one, and fills the next place.
use Rattle.std.proofs.Common.{length, arith}
use Rattle.book.proofs.Ranges.{accepted_ranges}
use Rattle.book.proofs.Rates.{scale_positive}
use Rattle.balance.proofs.Filling.FilledFactors.{fed, member_filled, parent_placed, all_placed}
use Rattle.balance.proofs.Promised.{filled_as_called, filled_keeps}
use Rattle.balance.proofs.Filling.Quotients.{later_half_life}
use Rattle.balance.specs.Private.Fillable.{CallPasses}
use Rattle.balance.proofs.fill.fill_accepted.Goals as goal

pub bounds-out-0 : goal.bounds-out-0
bounds-out-0 c = omega (arith, (accepted_ranges _ c.args.chain.accepted).members_count.from, c.requires)

pub loop-i-init : goal.loop-i-init
loop-i-init c =
    parent_placed c.args.chain.chain.now.bytes.now c.args.chain.accepted c.args.v.hundredths c.args.out.now c.requires

pub inflow_of-inflow-requires : goal.inflow_of-inflow-requires
inflow_of-inflow-requires c =
    fed _ c.args.chain.accepted c.args.v.hundredths c.loop-i.auto.i
    (omega (arith, c.members-i-end.ensures.value)) c.loop-i.invariant

pub member_factor-requires-clause-scale_positive : goal.member_factor-requires-clause-scale_positive
member_factor-requires-clause-scale_positive c = rw c.scale.ensures (scale_positive c.args.chain.chain.now.bytes.now)

pub member_factor-requires-clause-half_life_le_max_half_life :
    goal.member_factor-requires-clause-half_life_le_max_half_life
member_factor-requires-clause-half_life_le_max_half_life c =
    rw c.half_life.ensures
    (later_half_life _ c.args.chain.accepted c.loop-i.i (omega (arith, c.members-i-end.ensures.value)) c.loop-i.auto.i)

pub loop-i-preserved : goal.loop-i-preserved
loop-i-preserved c =
    member_filled _ c.args.chain.accepted c.args.v.hundredths c.loop-i.auto.i
    (omega (arith, c.members-i-end.ensures.value)) c.loop-i.invariant
    c.inflow_of-inflow.ensures c.scale.ensures c.half_life.ensures c.member_factor.ensures

pub returns : goal.returns
returns c =
    let book = c.args.chain.chain.now.bytes.now in
    let list = c.args.out.now in
    let filled =
    all_placed book c.args.chain.accepted c.args.v.hundredths list c.loop-i.invariant
    (omega (arith, c.members-i-end.ensures.value)) in
    let passes : CallPasses c.args.v.hundredths book (length list) =
    record { rate = c.args.v.within; accepted = c.args.chain.accepted; enough = c.requires }
    in
    record { filled = filled; written = filled_as_called list passes filled; sound = filled_keeps list passes filled }
