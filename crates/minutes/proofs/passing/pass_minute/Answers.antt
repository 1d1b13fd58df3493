-- The inflow of the next member is of this minute's factors, which stand in the places before its own.
use Rattle.std.proofs.Common.{◌∙◌, arith}
use Rattle.book.proofs.Filled.{filled_all}
use Rattle.minutes.proofs.Filling.{minute_fed, renewed_filled, held_filled, minute_filled}
use Rattle.minutes.proofs.passing.pass_minute.Goals as goal

pub loop-i-init : goal.loop-i-init
loop-i-init c = held_filled c.requires c.args.v.hundredths

pub inflow_of-inflow-requires : goal.inflow_of-inflow-requires
inflow_of-inflow-requires c =
    minute_fed c.requires c.args.v.hundredths c.loop-i.i c.loop-i.auto.i
    (omega (arith, c.members-i-end.ensures.value)) c.loop-i.invariant

pub loop-i-preserved : goal.loop-i-preserved
loop-i-preserved c =
    renewed_filled c.requires c.args.v.hundredths c.loop-i.i c.loop-i.auto.i
    (omega (arith, c.members-i-end.ensures.value)) c.loop-i.invariant
    c.inflow_of-inflow.ensures c.scale.ensures c.half_life.ensures c.new_factor.ensures

pub returns : goal.returns
returns c =
    filled_all c.loop-i.invariant (omega (arith, c.members-i-end.ensures.value))
    ∙ minute_filled c.requires c.args.v.hundredths
