-- The verdict and the level are those of the assessment that the sums are of.
use Rattle.verdict.proofs.Judging.{judged_is}
use Rattle.verdict.proofs.verdict.judged.Goals as goal

pub returns : goal.returns
returns c = judged_is c.sums_of-sums.ensures c.args.concentration c.verdict_by.ensures c.level_of.ensures
