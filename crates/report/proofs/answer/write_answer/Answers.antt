-- The lines are few enough to be counted.
use Rattle.std.proofs.Common.{arith}
use Rattle.report.proofs.ReportLengths.{screened_within_a_word}
use Rattle.report.proofs.answer.write_answer.Goals as goal

pub write_whole-requires : goal.write_whole-requires
write_whole-requires c = screened_within_a_word _ _ c.in-Ok.answer.figures (omega (arith, c.min-count.ensures))
