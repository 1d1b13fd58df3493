-- So many lines are marked, and the text gets shorter.
use Rattle.std.proofs.Common.{length}
use Rattle.marking.proofs.TableMarks.{SoFar}
use Rattle.marking.proofs.table.mark_lines.Given as goal

abbrev pub invariant-loop-rest : goal.invariant-loop-rest
invariant-loop-rest l = SoFar l.chain.chain.now.bytes.now l.text l.rest l.number l.marks

abbrev pub decreases-loop-rest : goal.decreases-loop-rest
decreases-loop-rest l = length l.rest
