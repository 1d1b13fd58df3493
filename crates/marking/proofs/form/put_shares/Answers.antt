-- A space and a number are handed over, and all of them together have room.
use Rattle.std.proofs.Common.{arith}
use Rattle.marking.specs.Lines.{share_in}
use Rattle.marking.proofs.Spaced.{none, nine_characters, roomy, more}
use Rattle.marking.proofs.form.put_shares.Goals as goal

pub loop-i-init : goal.loop-i-init
loop-i-init g c = none g.met.S.Sink.laws (share_in c.args.members c.args.line.now) c.args.sink.now

pub word-requires : goal.word-requires
word-requires g c =
    omega (
      arith,
      roomy g.met.S.Sink.laws (share_in c.args.members c.args.line.now) c.loop-i.i c.loop-i.invariant c.loop-i-test.true
          c.requires.fits,
    )

pub word-requires-in-loop-i : goal.word-requires-in-loop-i
word-requires-in-loop-i g c =
    let room =
    roomy g.met.S.Sink.laws (share_in c.args.members c.args.line.now) c.loop-i.i c.loop-i.invariant c.loop-i-test.true
    c.requires.fits
    in
    omega (
      arith,
      room,
      g.met.S.Sink.laws.less _ _ _ c.word.ensures,
      nine_characters c.share_in.result c.printed.ensures,
    )

pub loop-i-preserved : goal.loop-i-preserved
loop-i-preserved g c =
    more g.met.S.Sink.laws (share_in c.args.members c.args.line.now) c.loop-i.i c.loop-i.invariant c.word.ensures
    (rw (c.printed.ensures, c.share_in.ensures) at c.word-in-loop-i.ensures)
