-- No number has more than 20 digits, and a row no more than 16 factors.
use Rattle.std.proofs.Common.{ℕ, arith}
use Rattle.std.proofs.lemmas.List.{length-take}
use Rattle.text.proofs.Digits.{decimal_at_most}
use Rattle.lines.proofs.rows.put_line.Goals as goal
use Rattle.lines.proofs.rows.put_line.Goals.{then-answer-lt0, else-answer-lt0}

pub put_word-at-requires-then-answer-lt0-clause-room : goal.put_word-at-requires-then-answer-lt0-clause-room
put_word-at-requires-then-answer-lt0-clause-room c = omega (arith, decimal_at_most)

pub put_number-requires-clause-room : goal.put_number-requires-clause-room
put_number-requires-clause-room c =
    elim c.if-answer-lt0.branch [
      | then-answer-lt0 w ↦ omega (arith, decimal_at_most)
      | else-answer-lt0 w ↦ omega (arith, length-take {A = ℕ})
    ]

pub returns-clause-place : goal.returns-clause-place
returns-clause-place c =
    elim c.if-answer-lt0.branch [
      | then-answer-lt0 w ↦ (omega (arith, decimal_at_most), omega (arith, decimal_at_most))
      | else-answer-lt0 w ↦ (omega (arith, decimal_at_most), omega (arith, decimal_at_most, length-take {A = ℕ}))
    ]
