-- The shares' sums have places, since the count of members is tested before.
use Rattle.book.proofs.MemberGrounds.{members_counted}
use Rattle.book.proofs.checks.check_feeds.Goals as goal

pub shares_out_too_high-requires : goal.shares_out_too_high-requires
shares_out_too_high-requires c = members_counted c.args.book.now c.requires
