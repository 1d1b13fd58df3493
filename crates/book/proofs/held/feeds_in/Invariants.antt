-- After i turns the feeds of the first i members stand in walk order, and each of those members has its end.
use Rattle.book.proofs.Placed.{InOrder}
use Rattle.book.proofs.held.feeds_in.Given as goal

abbrev pub invariant-loop-i : goal.invariant-loop-i
invariant-loop-i l = InOrder l.book l.members l.initial.ends l.i l.at l.ends l.initial.feeds l.feeds
