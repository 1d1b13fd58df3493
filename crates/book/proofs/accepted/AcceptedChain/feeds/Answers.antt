use Rattle.std.proofs.Common.{arith, ◌<◌}
use Rattle.book.specs.Held.{member_places}
use Rattle.book.proofs.Ranges.{accepted_ranges}
use Rattle.book.proofs.HeldFields.{all_members, start_before_end, feeds_fit, feeds_at}
use Rattle.book.proofs.accepted.AcceptedChain.feeds.Goals as goal

pub feeds_start-requires : goal.feeds_start-requires
feeds_start-requires c = rw (all_members (accepted_ranges _ c.args.self.accepted)) c.requires

pub feeds_end-requires : goal.feeds_end-requires
feeds_end-requires c = rw (all_members (accepted_ranges _ c.args.self.accepted)) c.requires

pub offset_bounds-chain-feeds_start : goal.offset_bounds-chain-feeds_start
offset_bounds-chain-feeds_start c =
    record { fits = omega (arith, feeds_fit c.args.self.chain.now.bytes.now c.args.i, c.feeds_start.ensures) }

pub slice_bounds-result-count : goal.slice_bounds-result-count
slice_bounds-result-count c =
    omega (
      arith,
      start_before_end c.args.self.chain.now.bytes.now c.args.i,
      c.feeds_start.ensures,
      c.feeds_end.ensures.value,
    )

pub slice_bounds-result-start : goal.slice_bounds-result-start
slice_bounds-result-start c =
    omega (
      arith,
      start_before_end c.args.self.chain.now.bytes.now c.args.i,
      c.feeds_start.ensures,
      c.feeds_end.ensures.value,
    )

pub returns : goal.returns
returns c =
    let book = c.args.self.chain.now.bytes.now in
    let place : c.args.i < member_places book =
    rw (all_members (accepted_ranges book c.args.self.accepted)) c.requires in
    rw (c.feeds_start.ensures, c.feeds_end.ensures.value) (feeds_at c.args.self.chain.now.held c.args.i place)
