use Rattle.std.proofs.Common.{arith}
use Rattle.book.proofs.SharesSummed.{summing_none, summing_more}
use Rattle.book.proofs.checks.shares.sum_shares.Goals as goal

pub loop-j-init : goal.loop-j-init
loop-j-init c = summing_none c.feed_count-count.ensures.value c.feed_count-count.ensures.range c.requires

pub loop-j-preserved : goal.loop-j-preserved
loop-j-preserved c =
    summing_more
    c.loop-j.invariant
    c.loop-j-test.true
    c.from_of.ensures
    c.share_of.ensures
    (omega arith)
    c.add_share.ensures
