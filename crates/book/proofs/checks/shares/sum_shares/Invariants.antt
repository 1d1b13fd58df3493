-- After j turns each sum is that of the first j feeds' shares out of its member.
use Rattle.book.proofs.SharesSummed.{Summing}
use Rattle.book.proofs.checks.shares.sum_shares.Given as goal

abbrev pub invariant-loop-j : goal.invariant-loop-j
invariant-loop-j l = Summing l.book l.count l.j l.sums
