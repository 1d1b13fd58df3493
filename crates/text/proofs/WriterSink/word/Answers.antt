-- The word is copied into its place, and the list is the same.
use Rattle.std.proofs.Common.{◌≡◌, ◌+◌, ◌-◌, length, arith, refl}
use Rattle.text.proofs.Placed.{placed}
use Rattle.text.proofs.WriterSink.word.Goals as goal

pub returns : goal.returns
returns c =
    let at = c.args.self.now.written in
    let n : at + length c.args.word.now - at ≡ length c.args.word.now = omega arith in
    let put = placed c.args.self.now.out.now c.args.word.now at (omega (arith, c.requires, c.args.self.now.within)) in
    record {
      same_list = refl;
      place = refl;
      text = rw (c.copy_from_slice.ensures.after, n) put.0;
      rest = rw (c.copy_from_slice.ensures.after, n) put.1;
    }
