use Rattle.std.proofs.Common.{arith, ◌≡◌, ◌∷◌, ◌-◌}
use Rattle.book.specs.Limits.{max_feeds}
use Rattle.book.specs.Fields.{next, first_feed}
use Rattle.book.specs.Private.Feeds.{feeds_left}
use Rattle.book.proofs.Along.{along_within}
use Rattle.book.proofs.Placed.{extending_none, extending_more, extending_all}
use Rattle.book.proofs.held.feeds_along.Goals as goal

pub loop-feed-init : goal.loop-feed-init
loop-feed-init c =
    let book = c.args.book.now in
    let within = along_within (next book) (max_feeds - c.args.start) (first_feed book c.args.i) in
    rw (c.into_iter-feed-iterator.ensures.into_iter_gives, c.first_feeds-feed-items.ensures)
    (extending_none (omega (arith, within)))

pub loop-feed-preserved : goal.loop-feed-preserved
loop-feed-preserved c =
    let rest : feeds_left c.loop-feed.feed-iterator ≡ c.from.result ∷ feeds_left c.next.new.self =
    rw c.from.ensures c.in-Some.ensures.steps
    in
    extending_more c.loop-feed.invariant rest c.feed_of.ensures

pub returns : goal.returns
returns c = extending_all c.loop-feed.invariant c.in-None.ensures.steps.0
