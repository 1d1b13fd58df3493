-- The loop meets the member's feeds in order, and each raises its own count: what is counted and what is still to come
-- is the whole.
use Rattle.book.specs.Fields.{feeds_of}
use Rattle.book.specs.Private.Feeds.{feeds_left}
use Rattle.book.proofs.Counted.{Counting}
use Rattle.book.proofs.checks.walk.count_along.Given as goal

abbrev pub invariant-loop-feed : goal.invariant-loop-feed
invariant-loop-feed l = Counting l.initial.counts (feeds_of l.book l.i) l.counts (feeds_left l.feed-iterator)
