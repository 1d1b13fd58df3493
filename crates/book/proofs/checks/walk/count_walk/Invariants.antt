-- After i turns the feeds of the first i members are counted.
use Rattle.book.specs.BookGrounds.{walk}
use Rattle.book.specs.Private.Counted.{Counted}
use Rattle.book.proofs.checks.walk.count_walk.Given as goal

abbrev pub invariant-loop-i : goal.invariant-loop-i
invariant-loop-i l = Counted l.initial.counts (walk l.book l.i) l.counts
