use Rattle.std.proofs.Common.{add-one}
use Rattle.book.specs.BookGrounds.{walk}
use Rattle.book.proofs.Counted.{none, joined}
use Rattle.book.proofs.checks.walk.count_walk.Goals as goal

pub loop-i-init : goal.loop-i-init
unfolding walk
loop-i-init c = none

pub loop-i-preserved : goal.loop-i-preserved
unfolding walk
loop-i-preserved c = rw add-one (joined c.loop-i.invariant c.count_along.ensures)
