-- In each row, what is summed so far and the inflow of the feeds still ahead make the whole inflow.
use Rattle.std.proofs.Common.{ℕ, List, ◌≡◌, ◌+◌, drop}
use Rattle.balance.specs.Balance.{inflow}
use Rattle.portfolios.proofs.four.inflows_of.Given as goal

abbrev pub invariant-loop-feed : goal.invariant-loop-feed
invariant-loop-feed l =
    let summed : ℕ → List ℕ → Type 0 =
    λ sum factors. sum + inflow factors (drop l.feed-index l.feed-items) ≡ inflow factors l.feed-items
    in
    record { a : summed l.sums.a l.a; b : summed l.sums.b l.b; c : summed l.sums.c l.c; d : summed l.sums.d l.d }
