use Rattle.std.proofs.Common.{◌≡◌, ◌^◌, ◌<◌}
use Rattle.printed.specs.Places.{number_at}
use Rattle.printed.proofs.places.number_at.Given as goal

abbrev pub invariant-loop-k : goal.invariant-loop-k
invariant-loop-k l = (l.number ≡ number_at l.bytes l.at l.k) × (l.number < 1000 ^ l.k)
