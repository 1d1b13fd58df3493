-- The bytes of the literal are the codes of the definition's word, by computation.
use Rattle.std.proofs.Common.{refl}
use Rattle.report.proofs.lines.word_of.Goals as goal

pub returns-in-Below : goal.returns-in-Below
returns-in-Below c = rw c.in-Below.is refl

pub returns-in-Close : goal.returns-in-Close
returns-in-Close c = rw c.in-Close.is refl

pub returns-in-Above : goal.returns-in-Above
returns-in-Above c = rw c.in-Above.is refl
