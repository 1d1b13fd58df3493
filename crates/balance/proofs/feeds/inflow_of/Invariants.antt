-- What is summed so far and the inflow of the feeds still ahead make the whole inflow.
use Rattle.std.proofs.Common.{◌≡◌, ◌+◌, drop}
use Rattle.balance.specs.Balance.{inflow}
use Rattle.balance.proofs.feeds.inflow_of.Given as goal

abbrev pub invariant-loop-feed : goal.invariant-loop-feed
invariant-loop-feed l = l.sum + inflow l.factors (drop l.feed-index l.feed-items) ≡ inflow l.factors l.feed-items
