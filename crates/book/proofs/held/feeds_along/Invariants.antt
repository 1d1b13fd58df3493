-- The loop meets the feeds in order, and each goes to the next place.
use Rattle.std.proofs.Common.{◌-◌}
use Rattle.book.specs.Limits.{max_feeds}
use Rattle.book.specs.Fields.{next, first_feed, along}
use Rattle.book.specs.Private.Feeds.{feeds_left}
use Rattle.book.proofs.Placed.{Extending}
use Rattle.book.proofs.held.feeds_along.Given as goal

abbrev pub invariant-loop-feed : goal.invariant-loop-feed
invariant-loop-feed l =
    let added = along (next l.book) (max_feeds - l.start) (first_feed l.book l.i) in
    Extending l.book added l.start l.initial.feeds l.feeds (feeds_left l.feed-iterator) l.at
