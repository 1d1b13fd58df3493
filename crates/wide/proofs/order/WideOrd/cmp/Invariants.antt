-- The limbs still to be compared decide, and there are as many of the one number as of the other.
use Rattle.std.proofs.Common.{◌≡◌, length}
use Rattle.std.specs.Cmp.Lexicographic.{slice_cmp}
use Rattle.std.specs.Ordering.{nat_cmp}
use Rattle.wide.proofs.order.WideOrd.cmp.Given as goal

abbrev pub invariant-loop-x : goal.invariant-loop-x
invariant-loop-x l =
    (slice_cmp nat_cmp l.x-iterator.a.rest.now l.x-iterator.b.rest.now ≡ nat_cmp l.self l.other)
    × (length l.x-iterator.a.rest.now ≡ length l.x-iterator.b.rest.now)
