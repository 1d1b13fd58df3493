use Rattle.std.proofs.Common.{◌≡◌, ◌+◌, ◌*◌, ◌^◌, min}
use Rattle.printed.specs.Private.Scaled.{most_scaled}
use Rattle.printed.proofs.scaling.scaled.Given as goal

abbrev pub invariant-loop-place : goal.invariant-loop-place
invariant-loop-place l = l.product ≡ min (l.x * 10 ^ (l._place + 3)) most_scaled
