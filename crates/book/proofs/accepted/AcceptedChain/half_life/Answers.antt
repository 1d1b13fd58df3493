use Rattle.std.proofs.Common.{arith, ◌<◌}
use Rattle.book.specs.Held.{member_places}
use Rattle.book.proofs.Ranges.{accepted_ranges}
use Rattle.book.proofs.HeldFields.{all_members, half_life_at}
use Rattle.book.proofs.accepted.AcceptedChain.half_life.Goals as goal

pub offset_bounds-self-i : goal.offset_bounds-self-i
offset_bounds-self-i c =
    record { fits = omega (arith, (accepted_ranges _ c.args.self.accepted).members_count.to, c.requires) }

pub bounds-self-i : goal.bounds-self-i
bounds-self-i c = omega (arith, (accepted_ranges _ c.args.self.accepted).members_count.to, c.requires)

pub returns : goal.returns
returns c =
    let book = c.args.self.chain.now.bytes.now in
    let place : c.args.i < member_places book =
    rw (all_members (accepted_ranges book c.args.self.accepted)) c.requires in
    half_life_at c.args.self.chain.now.held c.args.i place
