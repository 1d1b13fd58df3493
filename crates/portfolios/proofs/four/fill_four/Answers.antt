-- In each row the member's factor is made of those in the places before it, so it is the reported one, and fills the
-- next place.
use Rattle.std.proofs.Common.{arith}
use Rattle.balance.proofs.Filling.FilledFactors.{member_filled, parent_placed}
use Rattle.portfolios.proofs.four.fill_four.Goals as goal

pub loop-i-init : goal.loop-i-init
loop-i-init c =
    let accepted = c.args.chain.accepted in
    record {
      a = parent_placed _ accepted _ _ c.requires.a;
      b = parent_placed _ accepted _ _ c.requires.b;
      c = parent_placed _ accepted _ _ c.requires.c;
      d = parent_placed _ accepted _ _ c.requires.d;
    }

pub loop-i-preserved : goal.loop-i-preserved
loop-i-preserved c =
    let accepted = c.args.chain.accepted in
    let later = c.loop-i.auto.i in
    let h = c.loop-i.invariant in
    let sums = c.inflows_of-inflows.ensures in
    let scale = c.scale-scale.ensures in
    let life = c.half_life-half_life.ensures in
    record {
      a = member_filled _ accepted _ later (omega arith) h.a sums.a scale life c.member_factor.ensures;
      b = member_filled _ accepted _ later (omega arith) h.b sums.b scale life c.member_factor-in-loop-i.ensures;
      c = member_filled _ accepted _ later (omega arith) h.c sums.c scale life c.member_factor-in-loop-i-2.ensures;
      d = member_filled _ accepted _ later (omega arith) h.d sums.d scale life c.member_factor-in-loop-i-3.ensures;
    }
