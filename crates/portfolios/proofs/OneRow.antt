-- The laws of one row, by which each of the rows that are filled side by side is shown to be right.
use Rattle.book.proofs.Ranges.{accepted_ranges}
use Rattle.book.proofs.Rates.{scale_positive}
use Rattle.balance.proofs.Filling.AlongFeeds.{turn, fed_inflow, none_ahead}
use Rattle.balance.proofs.Filling.FilledFactors.{fed, all_placed}
use Rattle.balance.proofs.Filling.Quotients.{later_half_life}
use Rattle.balance.proofs.Promised.{filled_as_called}

-- Of a member's inflow, summed along its feeds.
pub ruleset summing = (turn, fed_inflow, none_ahead)

-- Of the members' factors, made in member order.
pub ruleset filling = (accepted_ranges, scale_positive, later_half_life, fed, all_placed, filled_as_called)
