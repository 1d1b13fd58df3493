-- A rate has at most 20 digits, and there are at most 16 members, so there is room.
use Rattle.std.proofs.Common.{arith, ap, length}
use Rattle.text.proofs.Digits.{decimal_at_most}
use Rattle.marking.specs.Lines.{rate_in, share_in}
use Rattle.marking.proofs.LineLengths.{line_length}
use Rattle.marking.proofs.form.same_written.Goals as goal

pub put_line-requires-clause-fits : goal.put_line-requires-clause-fits
put_line-requires-clause-fits c =
    let n = c.args.members in
    let line = c.args.line.now in
    omega (
      arith,
      line_length n (rate_in n line) (share_in n line),
      decimal_at_most (rate_in n line),
      c.requires.few,
      ap length c.new-writer.ensures.as_it_was,
      c.new-writer.ensures.nothing,
    )
